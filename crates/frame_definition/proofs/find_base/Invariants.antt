use Prim.Native.Nat.{◌-◌}
use lib.ListN.{length}
use Rattle.frame_definition.proofs.Finding.{Basing}
use Rattle.frame_definition.proofs.find_base.Given as goal

abbrev pub invariant-loop-place : goal.invariant-loop-place
invariant-loop-place l = Basing l.text l.key l.place l.params

abbrev pub decreases-loop-place : goal.decreases-loop-place
decreases-loop-place l = length l.text - l.place.at
