use Rattle.header_walk.proofs.Exists.{lays_row}
use Rattle.header_walk.proofs.lay_row.Goals as goal

pub returns : goal.returns
returns c =
    lays_row _ _ _ _ _ _ _ _ c.extent_of.ensures _ c.in_ok-bits.was c.requires.place_lt_count.1 _ _ c.row_of-row.ensures c.write_row.ensures
