use Rattle.xml_values.specs.Scan.{lead}
use lib.ListN.{drop}
use Prim.Native.Nat.{◌+◌}
use mathlib.Core.Path.{◌≡◌}
use Rattle.xml_values.proofs.lead.Given as goal

abbrev pub invariant-loop-i : goal.invariant-loop-i
invariant-loop-i l = lead l.s ≡ l.i + lead (drop l.i l.s)
