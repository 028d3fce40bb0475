use Rattle.std.proofs.Common.{rules}
use Rattle.node_mask.proofs.Laws.{laws}
use Rattle.node_mask.proofs.count_nodes.Goals as goal

pub overflow_add-count : goal.overflow_add-count
overflow_add-count c = search (rules, laws)

pub loop-at-preserved : goal.loop-at-preserved
loop-at-preserved c = search (rules, laws)

pub returns : goal.returns
returns c = search (rules, laws)
