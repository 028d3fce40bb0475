use Rattle.std.proofs.Common.{◌-◌, ◌<◌, length}
use Rattle.coverage_word.proofs.tried.count_frames.Given as goal

abbrev pub invariant-loop-span : goal.invariant-loop-span
invariant-loop-span l = 0 < l.at

abbrev pub decreases-loop-span : goal.decreases-loop-span
decreases-loop-span l = length l.payload - l.at
