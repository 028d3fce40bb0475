use Prim.Native.Nat.{◌-◌}
use lib.ListN.{length}
use Rattle.pti.proofs.Laws.{Writing}
use Rattle.pti.proofs.payload.write_frames.Given as goal

abbrev pub invariant-loop-next : goal.invariant-loop-next
invariant-loop-next l = Writing l.rules l.payload l.initial.table l.table l.n l.number l.body

abbrev pub decreases-loop-next : goal.decreases-loop-next
decreases-loop-next l = length l.payload - l.body.end.0
