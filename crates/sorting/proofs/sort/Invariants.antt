use Rattle.sorting.proofs.Laws.{Sorting}
use Rattle.sorting.proofs.sort.Given as goal

abbrev pub invariant-loop-k : goal.invariant-loop-k
invariant-loop-k l = Sorting l.text l.initial.starts l.starts l.k
