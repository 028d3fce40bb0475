use Rattle.std.proofs.Common.{rules}
use Rattle.sorting.proofs.Laws.{laws}
use Rattle.sorting.proofs.collect.Goals as goal

pub loop-at-init : goal.loop-at-init
loop-at-init c = search (rules, laws)

pub loop-at-preserved : goal.loop-at-preserved
loop-at-preserved c = search (rules, laws)
