use Prim.Native.Nat.{◌-◌}
use lib.ListN.{length}
use Rattle.request.proofs.Laws.{Pairing}
use Rattle.request.proofs.read_pairs.Given as goal

abbrev pub invariant-loop-i : goal.invariant-loop-i
invariant-loop-i l = Pairing l.word l.bytes (length l.initial.bytes) l.n l.i

abbrev pub decreases-loop-i : goal.decreases-loop-i
decreases-loop-i l = l.n - l.i
