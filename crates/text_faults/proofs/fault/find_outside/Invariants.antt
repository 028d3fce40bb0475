use mathlib.Core.Path.{◌≡◌}
use Prim.Native.Nat.{◌+◌, ◌≤◌}
use lib.ListN.{length, drop}
use Rattle.text_faults.specs.Fault.{outside}
use Rattle.text_faults.proofs.fault.find_outside.Given as goal

abbrev pub invariant-loop-i : goal.invariant-loop-i
invariant-loop-i l = (l.i ≤ length l.s) × (outside l.lo l.hi l.s ≡ l.i + outside l.lo l.hi (drop l.i l.s))
