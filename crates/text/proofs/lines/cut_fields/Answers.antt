use Rattle.std.proofs.Common.{rules}
use Rattle.text.proofs.Laws.{line_laws}
use Rattle.text.proofs.lines.cut_fields.Goals as goal

pub returns-then-b-eq10 : goal.returns-then-b-eq10
returns-then-b-eq10 c = search (rules, line_laws)

pub loop-n-preserved : goal.loop-n-preserved
loop-n-preserved c = search (rules, line_laws)
