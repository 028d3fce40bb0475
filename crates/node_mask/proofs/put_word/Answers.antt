use Rattle.std.proofs.Common.{rules}
use Rattle.node_mask.proofs.Laws.{laws}
use Rattle.node_mask.proofs.put_word.Goals as goal

pub loop-rest-init : goal.loop-rest-init
loop-rest-init c = search (rules, laws)

pub loop-rest-preserved : goal.loop-rest-preserved
loop-rest-preserved c = search (rules, laws)
