use Prim.Native.Nat.{◌-◌}
use lib.ListN.{length}
use Rattle.overlaps.proofs.Laws.{Apart}
use Rattle.overlaps.proofs.headers.is_apart.Given as goal

abbrev pub invariant-loop-other : goal.invariant-loop-other
invariant-loop-other l = Apart l.text l.one l.place

abbrev pub decreases-loop-other : goal.decreases-loop-other
decreases-loop-other l = length l.text - l.place.at
