use Prim.Native.Nat.{◌-◌}
use lib.ListN.{length}
use Rattle.overlaps.proofs.Laws.{AllApart}
use Rattle.overlaps.proofs.headers.all_apart.Given as goal

abbrev pub invariant-loop-one : goal.invariant-loop-one
invariant-loop-one l = AllApart l.text l.place

abbrev pub decreases-loop-one : goal.decreases-loop-one
decreases-loop-one l = length l.text - l.place.at
