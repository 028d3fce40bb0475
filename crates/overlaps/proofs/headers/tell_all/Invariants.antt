use Rattle.overlaps.specs.Read.{said_at, valids_at}
use Prim.Native.Nat.{◌-◌}
use lib.ListN.{length}
use Rattle.overlaps.proofs.Laws.{Most, each, all}
use Rattle.overlaps.proofs.headers.tell_all.Given as goal

abbrev pub invariant-loop-path : goal.invariant-loop-path
invariant-loop-path l = Most (each (said_at l.text l.one) (said_at l.text l.other) (valids_at l.text l.other) l.text l.one) (all
    (said_at l.text l.one) (said_at l.text l.other) (valids_at l.text l.other) l.text l.one) l.text l.one l.place l.most

abbrev pub decreases-loop-path : goal.decreases-loop-path
decreases-loop-path l = length l.text - l.place.at
