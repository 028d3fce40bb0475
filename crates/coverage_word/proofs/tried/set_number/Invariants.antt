use Rattle.std.proofs.Common.{◌-◌, length}
use Rattle.coverage_word.proofs.tried.Laws.{Names}
use Rattle.coverage_word.proofs.tried.set_number.Given as goal

abbrev pub invariant-loop-at : goal.invariant-loop-at
invariant-loop-at l = Names l.text l.name l.at l.k

abbrev pub decreases-loop-at : goal.decreases-loop-at
decreases-loop-at l = length l.text - l.at
