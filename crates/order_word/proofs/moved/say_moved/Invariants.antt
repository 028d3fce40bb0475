use Rattle.std.proofs.Common.{◌-◌, length}
use Rattle.order_word.proofs.moved.say_moved.Given as goal

abbrev pub decreases-loop-at : goal.decreases-loop-at
decreases-loop-at l = length l.new - l.at
