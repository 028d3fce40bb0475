use Rattle.xml_tags.specs.Tags.{fault}
use Rattle.text.specs.Text.{split, fields}
use lib.ListN.{length, drop}
use Prim.Native.Nat.{◌+◌, ◌-◌, ◌≤◌}
use mathlib.Core.Path.{◌≡◌}
use Rattle.xml_tags.proofs.fault_of.Given as goal

abbrev pub invariant-loop-e : goal.invariant-loop-e
invariant-loop-e l =
    (l.at ≤ length l.body) × (fault (drop 1 (fields l.row)) l.inside (split 34 l.body) ≡ fault (drop 1 (fields l.row)) (l.inside + l.at) (split 34 (drop l.at l.body)))

abbrev pub decreases-loop-e : goal.decreases-loop-e
decreases-loop-e l = length l.body - l.at
