use Rattle.std.proofs.Common.{◌-◌, ◌≤◌}
use Rattle.trees.proofs.ruler.put_ruler.Given as goal

abbrev pub invariant-loop-from : goal.invariant-loop-from
invariant-loop-from l = l.from ≤ l.end

abbrev pub decreases-loop-from : goal.decreases-loop-from
decreases-loop-from l = l.end - l.from
