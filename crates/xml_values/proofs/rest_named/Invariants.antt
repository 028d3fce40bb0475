use Rattle.xml_values.specs.Values.{named}
use Rattle.text.specs.Text.{split}
use lib.ListN.{length, drop}
use Prim.Native.Nat.{◌-◌, ◌≤◌}
use mathlib.Core.Path.{◌≡◌}
use Rattle.xml_values.proofs.rest_named.Given as goal

abbrev pub invariant-loop-rest : goal.invariant-loop-rest
invariant-loop-rest l = (l.at ≤ length l.s) × (named (split 38 l.s) ≡ named (split 38 (drop l.at l.s)))

abbrev pub decreases-loop-rest : goal.decreases-loop-rest
decreases-loop-rest l = length l.s - l.at
