use Rattle.std.proofs.Common.{rules}
use Rattle.lossy.proofs.Laws.{laws}
use Rattle.lossy.proofs.put_all.Goals as goal

pub loop-i-preserved : goal.loop-i-preserved
loop-i-preserved c = search (rules, laws)
