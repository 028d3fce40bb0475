use Rattle.std.proofs.Common.{◌-◌, length}
use Rattle.order_word.proofs.moved.count_under.Given as goal

abbrev pub decreases-loop-at : goal.decreases-loop-at
decreases-loop-at l = length l.text - l.at
