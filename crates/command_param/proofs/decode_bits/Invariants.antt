use Rattle.command_param.proofs.Bits.{Children}
use Prim.Native.Nat.{◌-◌}
use lib.ListN.{length}
use Rattle.command_param.proofs.decode_bits.Given as goal

abbrev pub invariant-loop-k : goal.invariant-loop-k
invariant-loop-k l = Children l.text l.initial.place l.b l.parent l.start.0 l.total l.skip l.initial.rows l.rows l.place l.k

abbrev pub decreases-loop-k : goal.decreases-loop-k
decreases-loop-k l = length l.text - l.place.at
