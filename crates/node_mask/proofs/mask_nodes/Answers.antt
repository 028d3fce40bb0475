use Rattle.std.proofs.Common.{rules}
use Rattle.node_mask.proofs.Laws.{laws}
use Rattle.node_mask.proofs.mask_nodes.Goals as goal

pub returns-then-mask-gt-MOST_BYTES : goal.returns-then-mask-gt-MOST_BYTES
returns-then-mask-gt-MOST_BYTES c = search (rules, laws)

pub returns-then-nodes-count : goal.returns-then-nodes-count
returns-then-nodes-count c = search (rules, laws)

pub returns : goal.returns
returns c = search (rules, laws)
