use lib.ListN.{drop}
use Prim.Native.Nat.{◌-◌}
use mathlib.Core.Path.{◌≡◌}
use Rattle.text.specs.Text.{within}
use Rattle.text.proofs.scan.all_within.Given as goal

abbrev pub invariant-loop-b : goal.invariant-loop-b
invariant-loop-b l = within l.lo l.hi l.s ≡ within l.lo l.hi (drop l.b-index l.s)
