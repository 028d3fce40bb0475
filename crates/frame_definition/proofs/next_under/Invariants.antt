use Prim.Native.Nat.{◌-◌}
use lib.ListN.{length}
use Rattle.text.proofs.Listing.{Seeking}
use Rattle.frame_text.specs.Rules.{owns, rules as text_rules}
use Rattle.frame_definition.specs.Find.{from, of_kind}
use Rattle.frame_definition.proofs.next_under.Given as goal

abbrev pub invariant-loop-place : goal.invariant-loop-place
invariant-loop-place l = Seeking owns (of_kind l.kind) text_rules from l.text l.initial.place l.place

abbrev pub decreases-loop-place : goal.decreases-loop-place
decreases-loop-place l = length l.text - l.place.at
