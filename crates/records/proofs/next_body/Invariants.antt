use Prim.Native.Nat.{◌-◌}
use lib.ListN.{length}
use Rattle.records.proofs.Laws.{Passing}
use Rattle.records.proofs.next_body.Given as goal

abbrev pub invariant-loop-n : goal.invariant-loop-n
invariant-loop-n l = Passing l.payload l.at l.place

abbrev pub decreases-loop-n : goal.decreases-loop-n
decreases-loop-n l = length l.payload - l.place
