use Rattle.text.proofs.Laws.{Cutting}
use Rattle.text.proofs.lines.cut_fields.Given as goal

abbrev pub invariant-loop-n : goal.invariant-loop-n
invariant-loop-n l = Cutting l.text l.at l.n l.a l.marks
