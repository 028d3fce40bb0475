use Prim.Native.Nat.{◌-◌}
use lib.ListN.{length}
use Rattle.node_mask.proofs.Laws.{Laying}
use Rattle.node_mask.proofs.put_nodes.Given as goal

abbrev pub invariant-loop-at : goal.invariant-loop-at
invariant-loop-at l = Laying l.mask l.initial.nodes l.nodes l.at l.i

abbrev pub decreases-loop-at : goal.decreases-loop-at
decreases-loop-at l = length l.mask - l.at
