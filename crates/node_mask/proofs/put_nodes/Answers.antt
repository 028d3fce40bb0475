use Rattle.std.proofs.Common.{rules}
use Rattle.node_mask.proofs.Laws.{laws}
use Rattle.node_mask.proofs.put_nodes.Goals as goal

pub loop-at-preserved : goal.loop-at-preserved
loop-at-preserved c = search (rules, laws)
