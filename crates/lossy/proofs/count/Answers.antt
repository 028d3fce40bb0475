use Rattle.std.proofs.Common.{rules}
use Rattle.lossy.proofs.Laws.{laws}
use Rattle.lossy.proofs.count.Goals as goal

pub overflow_add-n : goal.overflow_add-n
overflow_add-n c = search (rules, laws)

pub loop-i-preserved : goal.loop-i-preserved
loop-i-preserved c = search (rules, laws)
