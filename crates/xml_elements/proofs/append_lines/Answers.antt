use Rattle.std.proofs.Common.{rules}
use Rattle.xml_elements.proofs.Laws.{line_laws}
use Rattle.xml_elements.proofs.append_lines.Goals as goal

pub loop-rest-preserved : goal.loop-rest-preserved
loop-rest-preserved c = search (rules, line_laws)

pub returns-then-e-rest : goal.returns-then-e-rest
returns-then-e-rest c = search (rules, line_laws)
