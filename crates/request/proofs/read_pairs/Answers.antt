use Rattle.std.proofs.Common.{rules}
use Rattle.request.proofs.Laws.{laws}
use Rattle.request.proofs.read_pairs.Goals as goal

pub returns-then-high-ge16 : goal.returns-then-high-ge16
returns-then-high-ge16 c = search (rules, laws)

pub loop-i-preserved : goal.loop-i-preserved
loop-i-preserved c = search (rules, laws)
