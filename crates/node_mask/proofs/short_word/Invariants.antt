use mathlib.Core.Path.{◌≡◌}
use lib.ListN.{drop}
use Rattle.node_mask.specs.Words.{little}
use Rattle.node_mask.proofs.short_word.Given as goal

abbrev pub invariant-loop-i : goal.invariant-loop-i
invariant-loop-i l = l.word ≡ little (drop l.i l.bytes)
