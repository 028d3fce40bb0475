use Prim.Native.Nat.{◌-◌}
use lib.ListN.{length}
use Rattle.frame_definition.proofs.Seeking.{Seeking}
use Rattle.frame_definition.proofs.numbered.find_param.Given as goal

abbrev pub invariant-loop-place : goal.invariant-loop-place
invariant-loop-place l = Seeking l.text l.number l.place l.n

abbrev pub decreases-loop-place : goal.decreases-loop-place
decreases-loop-place l = length l.text - l.place.at
