use mathlib.Core.Path.{◌≡◌}
use lib.ListN.{drop}
use Rattle.reorder.specs.Sorted.{up_to}
use Rattle.sorting.proofs.is_up_to.Given as goal

abbrev pub invariant-loop-i : goal.invariant-loop-i
invariant-loop-i l = up_to l.a l.b ≡ up_to (drop l.i l.a) (drop l.i l.b)
