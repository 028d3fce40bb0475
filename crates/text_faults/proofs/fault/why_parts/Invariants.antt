use mathlib.Core.Path.{◌≡◌}
use Prim.Native.Nat.{◌-◌, ◌≤◌}
use lib.ListN.{length, drop}
use Rattle.text.specs.Text.{split}
use Rattle.text_faults.specs.Fault.{why_parts}
use Rattle.text_faults.proofs.fault.why_parts.Given as goal

abbrev pub invariant-loop-rest : goal.invariant-loop-rest
invariant-loop-rest l = (l.at ≤ length l.s) × (why_parts 0 (split 46 l.s) ≡ why_parts l.at (split 46 (drop l.at l.s)))

abbrev pub decreases-loop-rest : goal.decreases-loop-rest
decreases-loop-rest l = length l.s - l.at
