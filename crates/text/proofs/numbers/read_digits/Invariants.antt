use lib.ListN.{drop}
use Prim.Native.Nat.{◌≤◌}
use mathlib.Core.Path.{◌≡◌}
use Rattle.text.specs.Scan.{digits}
use Rattle.text.proofs.numbers.read_digits.Given as goal

abbrev pub invariant-loop-i : goal.invariant-loop-i
invariant-loop-i l = (l.v ≤ l.limit) × (digits l.limit 0 l.s ≡ digits l.limit l.v (drop l.i l.s))
