use Rattle.std.proofs.Common.{◌-◌, length}
use Rattle.coverage_word.proofs.tried.Laws.{Fills}
use Rattle.coverage_word.proofs.tried.find_sets.Given as goal

abbrev pub invariant-loop-at : goal.invariant-loop-at
invariant-loop-at l = Fills l.text l.sets l.initial.sets l.at l.k

abbrev pub decreases-loop-at : goal.decreases-loop-at
decreases-loop-at l = length l.text - l.at
