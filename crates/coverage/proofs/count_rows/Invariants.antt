use Rattle.coverage.proofs.Laws.{Counting}
use Rattle.coverage.proofs.count_rows.Given as goal

abbrev pub invariant-loop-k : goal.invariant-loop-k
invariant-loop-k l = Counting l.sets l.rows l.initial.counts l.counts l.k l.n
