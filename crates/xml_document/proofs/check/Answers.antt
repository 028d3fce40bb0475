use Rattle.std.proofs.Common.{rules}
use Rattle.xml_document.proofs.Laws.{check_laws}
use Rattle.xml_document.proofs.check.Goals as goal

pub returns-then-e-rest : goal.returns-then-e-rest
returns-then-e-rest c = search (rules, check_laws)

pub returns-then-n-eq-NOWHERE : goal.returns-then-n-eq-NOWHERE
returns-then-n-eq-NOWHERE c = search (rules, check_laws)
