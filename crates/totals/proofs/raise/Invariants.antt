use Rattle.totals.proofs.Sums.{Raising}
use Rattle.totals.proofs.raise.Given as goal

abbrev pub invariant-loop-i : goal.invariant-loop-i
invariant-loop-i l = Raising l.initial.totals l.totals l.sums l.i
