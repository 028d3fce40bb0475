use Rattle.std.proofs.Common.{rules}
use Rattle.listing.proofs.Laws.{laws}
use Rattle.listing.proofs.judge_beside.Goals as goal

pub returns-then-number-answered : goal.returns-then-number-answered
returns-then-number-answered c = search (rules, laws)

pub returns-else-number-answered : goal.returns-else-number-answered
returns-else-number-answered c = search (rules, laws)
