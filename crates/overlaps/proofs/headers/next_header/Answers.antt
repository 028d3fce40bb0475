use Rattle.std.proofs.Common.{rules}
use Rattle.overlaps.proofs.Laws.{laws}
use Rattle.overlaps.proofs.headers.next_header.Goals as goal

pub loop-place-preserved : goal.loop-place-preserved
loop-place-preserved c = search (rules, laws)

pub returns-in-loop-place : goal.returns-in-loop-place
returns-in-loop-place c = search (rules, laws)
