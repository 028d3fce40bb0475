use Prim.Native.Nat.{◌-◌}
use lib.ListN.{length}
use Rattle.pti.proofs.Laws.{Tallying}
use Rattle.pti.proofs.payload.count_frames.Given as goal

abbrev pub invariant-loop-span : goal.invariant-loop-span
invariant-loop-span l = Tallying l.rules l.payload l.count l.at

abbrev pub decreases-loop-span : goal.decreases-loop-span
decreases-loop-span l = length l.payload - l.at
