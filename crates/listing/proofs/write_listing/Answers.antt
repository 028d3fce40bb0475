use Rattle.std.proofs.Common.{rules}
use Rattle.listing.proofs.Laws.{laws, writes_own}
use Rattle.listing.proofs.write_listing.Goals as goal

pub returns : goal.returns
returns c =
    writes_own _ _ _ _ _ _ c.decode_header.result c.decode_header.new.rows _ _ _ c.decode_header.ensures (search (rules, laws)) c.in_ok-header.was
    c.write_rows.ensures
