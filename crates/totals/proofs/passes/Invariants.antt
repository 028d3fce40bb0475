use Rattle.totals.proofs.Sums.{Passing}
use Rattle.totals.proofs.passes.Given as goal

abbrev pub invariant-loop-i : goal.invariant-loop-i
invariant-loop-i l = Passing l.totals l.sums l.i
