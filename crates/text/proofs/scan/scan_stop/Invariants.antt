use lib.ListN.{drop}
use Prim.Native.Nat.{◌+◌}
use mathlib.Core.Path.{◌≡◌}
use Rattle.text.specs.Scan.{halt}
use Rattle.text.proofs.scan.scan_stop.Given as goal

abbrev pub invariant-loop-i : goal.invariant-loop-i
invariant-loop-i l = halt l.s ≡ l.i + halt (drop l.i l.s)
