use Rattle.text.specs.Place.{part_of}
use Rattle.overlaps.specs.Overlaps.{clear_of}
use Prim.Native.Nat.{◌-◌}
use lib.ListN.{length}
use Rattle.overlaps.proofs.Laws.{Left}
use Rattle.overlaps.proofs.lines.is_clear.Given as goal

abbrev pub invariant-loop-field : goal.invariant-loop-field
invariant-loop-field l = Left (clear_of l.level l.order (part_of l.text l.name)) l.text l.initial.place l.place

abbrev pub decreases-loop-field : goal.decreases-loop-field
decreases-loop-field l = length l.text - l.place.at
