use Rattle.std.proofs.Common.{◌-◌, length}
use Rattle.coverage_word.proofs.lines_page.put_lines.Given as goal

abbrev pub decreases-loop-at : goal.decreases-loop-at
decreases-loop-at l = length l.text - l.at
