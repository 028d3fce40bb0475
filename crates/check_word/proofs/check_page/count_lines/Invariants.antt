use Rattle.std.proofs.Common.{◌-◌, ◌≤◌, length}
use Rattle.check_word.proofs.check_page.count_lines.Given as goal

abbrev pub invariant-loop-rest : goal.invariant-loop-rest
invariant-loop-rest l = (l.at ≤ length l.text) × (l.n ≤ l.at)

abbrev pub decreases-loop-rest : goal.decreases-loop-rest
decreases-loop-rest l = length l.text - l.at
