use Prim.Native.Nat.{◌-◌}
use lib.ListN.{length}
use Rattle.frame_definition.proofs.Finding.{Keying}
use Rattle.frame_definition.proofs.base_key.Given as goal

abbrev pub invariant-loop-place : goal.invariant-loop-place
invariant-loop-place l = Keying l.text l.region l.place

abbrev pub decreases-loop-place : goal.decreases-loop-place
decreases-loop-place l = length l.text - l.place.at
