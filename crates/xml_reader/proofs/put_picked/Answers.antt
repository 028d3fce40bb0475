use Rattle.std.proofs.Common.{rules}
use Rattle.xml_reader.proofs.Laws.{picking_laws}
use Rattle.xml_reader.proofs.put_picked.Goals as goal

pub loop-rest-preserved : goal.loop-rest-preserved
loop-rest-preserved c = search (rules, picking_laws)

pub returns-then-e-rest : goal.returns-then-e-rest
returns-then-e-rest c = search (rules, picking_laws)

pub returns-in_default : goal.returns-in_default
returns-in_default c = search (rules, picking_laws)
