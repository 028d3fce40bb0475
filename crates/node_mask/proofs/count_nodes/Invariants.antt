use Prim.Native.Nat.{◌-◌}
use lib.ListN.{length}
use Rattle.node_mask.proofs.Laws.{Counting}
use Rattle.node_mask.proofs.count_nodes.Given as goal

abbrev pub invariant-loop-at : goal.invariant-loop-at
invariant-loop-at l = Counting l.mask l.at l.count

abbrev pub decreases-loop-at : goal.decreases-loop-at
decreases-loop-at l = length l.mask - l.at
