use Prim.Native.Nat.{◌-◌}
use lib.ListN.{length}
use Rattle.header_candidates.proofs.Laws.{Choosing}
use Rattle.header_candidates.proofs.choose.Given as goal

abbrev pub invariant-loop-candidate : goal.invariant-loop-candidate
invariant-loop-candidate l =
    Choosing l.text l.mpdu l.key l.initial.fields l.initial.scratch l.base l.fields l.scratch l.place l.h l.n

abbrev pub decreases-loop-candidate : goal.decreases-loop-candidate
decreases-loop-candidate l = length l.text - l.place.at
