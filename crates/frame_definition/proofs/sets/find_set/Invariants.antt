use Prim.Native.Nat.{◌-◌}
use lib.ListN.{length}
use Rattle.frame_definition.proofs.Symbols.{Setting}
use Rattle.frame_definition.proofs.sets.find_set.Given as goal

abbrev pub invariant-loop-place : goal.invariant-loop-place
invariant-loop-place l = Setting l.text l.name l.place

abbrev pub decreases-loop-place : goal.decreases-loop-place
decreases-loop-place l = length l.text - l.place.at
