use Rattle.text.specs.Place.{part_of}
use Rattle.frame_text.specs.Form.{names}
use Rattle.overlaps.specs.Overlaps.{tell_one, tell_each}
use Rattle.overlaps.specs.Read.{said_at}
use Prim.Native.Nat.{◌-◌}
use lib.ListN.{length}
use Rattle.overlaps.proofs.Laws.{Most}
use Rattle.overlaps.proofs.headers.tell_each.Given as goal

abbrev pub invariant-loop-beside : goal.invariant-loop-beside
invariant-loop-beside l = Most
    (tell_one (said_at l.text l.one) (said_at l.text l.other) (record { path = names (part_of l.text l.path); value = l.value }))
    (tell_each (said_at l.text l.one) (said_at l.text l.other) (record { path = names (part_of l.text l.path); value = l.value }))
    l.text l.other l.place l.most

abbrev pub decreases-loop-beside : goal.decreases-loop-beside
decreases-loop-beside l = length l.text - l.place.at
