use Rattle.std.proofs.Common.{◌-◌, ◌≤◌, length}
use Rattle.frame_line.proofs.node_columns.find_row.Given as goal

abbrev pub invariant-loop-at : goal.invariant-loop-at
invariant-loop-at l = l.at ≤ length l.text

abbrev pub decreases-loop-at : goal.decreases-loop-at
decreases-loop-at l = length l.text - l.at
