use mathlib.Core.Path.{◌≡◌}
use Prim.Native.Nat.{◌≤◌}
use lib.ListN.{drop}
use Rattle.numerals.specs.Numbers.{most, digits_from}
use Rattle.numerals.proofs.numbers.read_digits.Given as goal

abbrev pub invariant-loop-b : goal.invariant-loop-b
invariant-loop-b l = (l.v ≤ most) × (digits_from 0 l.s ≡ digits_from l.v (drop l.b-index l.s))
