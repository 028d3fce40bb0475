use Prim.Native.Nat.{◌-◌}
use lib.ListN.{length}
use Rattle.header_value.proofs.LookupLaws.{Entering}
use Rattle.header_value.proofs.lookup.entry_text.Given as goal

abbrev pub invariant-loop-place : goal.invariant-loop-place
invariant-loop-place l = Entering l.text l.initial.place l.n l.place l.left

abbrev pub decreases-loop-place : goal.decreases-loop-place
decreases-loop-place l = length l.text - l.place.at
