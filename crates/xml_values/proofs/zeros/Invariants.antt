use Rattle.xml_values.specs.Values.{strip}
use lib.ListN.{drop}
use mathlib.Core.Path.{◌≡◌}
use Rattle.xml_values.proofs.zeros.Given as goal

abbrev pub invariant-loop-i : goal.invariant-loop-i
invariant-loop-i l = strip l.v ≡ strip (drop l.i l.v)
