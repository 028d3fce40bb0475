use Rattle.xml_values.specs.Values.{run}
use lib.ListN.{drop}
use Prim.Native.Nat.{◌+◌}
use mathlib.Core.Path.{◌≡◌}
use Rattle.xml_values.proofs.run.Given as goal

abbrev pub invariant-loop-i : goal.invariant-loop-i
invariant-loop-i l = run l.base l.s ≡ l.i + run l.base (drop l.i l.s)
