use Prim.Native.Nat.{◌-◌}
use lib.ListN.{length}
use Rattle.lossy.proofs.Laws.{Putting}
use Rattle.lossy.proofs.put_all.Given as goal

abbrev pub invariant-loop-i : goal.invariant-loop-i
invariant-loop-i l = Putting l.to l.initial.to l.s l.n l.i

abbrev pub decreases-loop-i : goal.decreases-loop-i
decreases-loop-i l = length l.s - l.i
