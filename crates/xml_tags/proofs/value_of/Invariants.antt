use Rattle.xml_tags.specs.Tags.{has, value_of}
use Rattle.text.specs.Text.{split}
use lib.ListN.{length, drop}
use Prim.Native.Nat.{◌-◌, ◌≤◌}
use mathlib.Core.Path.{◌≡◌}
use Rattle.xml_tags.proofs.value_of.Given as goal

abbrev pub invariant-loop-e : goal.invariant-loop-e
invariant-loop-e l =
    (l.at ≤ length l.body)
    × (has l.n (split 34 l.body) ≡ has l.n (split 34 (drop l.at l.body)))
    × (value_of l.n (split 34 l.body) ≡ value_of l.n (split 34 (drop l.at l.body)))

abbrev pub decreases-loop-e : goal.decreases-loop-e
decreases-loop-e l = length l.body - l.at
