use Prim.Native.Nat.{◌-◌}
use lib.ListN.{length}
use Rattle.command_class.proofs.Naming.{Naming}
use Rattle.command_class.proofs.find_const.Given as goal

abbrev pub invariant-loop-place : goal.invariant-loop-place
invariant-loop-place l = Naming l.text l.initial.place l.value l.place

abbrev pub decreases-loop-place : goal.decreases-loop-place
decreases-loop-place l = length l.text - l.place.at
