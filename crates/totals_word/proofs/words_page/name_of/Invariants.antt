use Rattle.std.proofs.Common.{◌-◌, length}
use Rattle.totals_word.proofs.words_page.Laws.{Named}
use Rattle.totals_word.proofs.words_page.name_of.Given as goal

abbrev pub invariant-loop-at : goal.invariant-loop-at
invariant-loop-at l = Named l.text l.key l.at

abbrev pub decreases-loop-at : goal.decreases-loop-at
decreases-loop-at l = length l.text - l.at
