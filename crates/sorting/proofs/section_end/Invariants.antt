use Prim.Native.Nat.{◌-◌}
use lib.ListN.{length}
use Rattle.sorting.proofs.Places.{Reaches}
use Rattle.sorting.proofs.section_end.Given as goal

abbrev pub invariant-loop-at : goal.invariant-loop-at
invariant-loop-at l = Reaches l.text l.start l.at

abbrev pub decreases-loop-at : goal.decreases-loop-at
decreases-loop-at l = length l.text - l.at
