use Rattle.overlaps.specs.Overlaps.{has_outer}
use Prim.Native.Nat.{◌-◌}
use lib.ListN.{length}
use Rattle.overlaps.proofs.Laws.{Left}
use Rattle.overlaps.proofs.lines.has_outer.Given as goal

abbrev pub invariant-loop-field : goal.invariant-loop-field
invariant-loop-field l = Left (has_outer l.name) l.text l.initial.place l.place

abbrev pub decreases-loop-field : goal.decreases-loop-field
decreases-loop-field l = length l.text - l.place.at
