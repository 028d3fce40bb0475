use Rattle.xml_values.specs.Values.{worth_in}
use lib.ListN.{drop}
use Prim.Native.Nat.{◌≤◌}
use mathlib.Core.Path.{◌≡◌}
use Rattle.xml_values.proofs.worth.Given as goal

abbrev pub invariant-loop-b : goal.invariant-loop-b
invariant-loop-b l = (l.v ≤ 4294967295) × (worth_in l.base 0 l.s ≡ worth_in l.base l.v (drop l.b-index l.s))
