use Rattle.xml_values.specs.Scan.{word_len}
use lib.ListN.{drop}
use Prim.Native.Nat.{◌+◌}
use mathlib.Core.Path.{◌≡◌}
use Rattle.xml_values.proofs.word_len.Given as goal

abbrev pub invariant-loop-i : goal.invariant-loop-i
invariant-loop-i l = word_len l.s ≡ l.i + word_len (drop l.i l.s)
