use Prim.Native.Nat.{◌-◌}
use lib.ListN.{length}
use Rattle.frame_definition.proofs.Candidates.{Looking}
use Rattle.frame_definition.proofs.next_candidate.Given as goal

abbrev pub invariant-loop-place : goal.invariant-loop-place
invariant-loop-place l = Looking l.text l.initial.place l.key l.h l.n l.place l.number l.params

abbrev pub decreases-loop-place : goal.decreases-loop-place
decreases-loop-place l = length l.text - l.place.at
