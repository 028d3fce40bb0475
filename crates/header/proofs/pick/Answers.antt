use Rattle.std.proofs.Common.{arith}
use Rattle.header.proofs.Laws.{picks_one}
use Rattle.header.proofs.pick.Goals as goal

pub returns : goal.returns
returns c =
    picks_one _ _ _ _ _ _ c.choose.result c.in_ok-candidate.candidate c.in_ok-candidate.read c.choose.ensures (grind arith) _ _ _ _ _ _ _
    c.check_crc-right.ensures c.heading_of-header.ensures c.show.ensures
