use Rattle.numerals.proofs.Laws.{Spelling}
use Rattle.numerals.proofs.spell.Given as goal

abbrev pub invariant-loop-digit : goal.invariant-loop-digit
invariant-loop-digit l = Spelling l.base l.ten l.least l.n l.out l.at l.rest l.left

abbrev pub decreases-loop-digit : goal.decreases-loop-digit
decreases-loop-digit l = l.at
