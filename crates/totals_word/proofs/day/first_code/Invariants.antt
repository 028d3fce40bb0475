use Rattle.std.proofs.Common.{◌-◌, ◌<◌, length}
use Rattle.totals_word.proofs.day.first_code.Given as goal

abbrev pub invariant-loop-span : goal.invariant-loop-span
invariant-loop-span l = 0 < l.at

abbrev pub decreases-loop-span : goal.decreases-loop-span
decreases-loop-span l = length l.payload - l.at
