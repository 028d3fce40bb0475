use Prim.Native.Nat.{◌-◌}
use lib.ListN.{length}
use Rattle.sorting.proofs.Laws.{Collecting}
use Rattle.sorting.proofs.collect.Given as goal

abbrev pub invariant-loop-at : goal.invariant-loop-at
invariant-loop-at l = Collecting l.text l.starts l.at l.n

abbrev pub decreases-loop-at : goal.decreases-loop-at
decreases-loop-at l = length l.text - l.at
