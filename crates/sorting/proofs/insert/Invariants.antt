use Rattle.sorting.proofs.Laws.{Inserting}
use Rattle.sorting.proofs.insert.Given as goal

abbrev pub invariant-loop-i : goal.invariant-loop-i
invariant-loop-i l = Inserting l.text l.initial.starts l.starts l.k l.i l.it
