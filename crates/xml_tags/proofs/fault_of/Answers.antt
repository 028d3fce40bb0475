use Rattle.std.proofs.Common.{rules}
use Rattle.xml_tags.proofs.Laws.{laws}
use Rattle.xml_tags.proofs.fault_of.Goals as goal

pub loop-e-preserved : goal.loop-e-preserved
loop-e-preserved c = search (rules, laws)

pub returns-in-WrongName : goal.returns-in-WrongName
returns-in-WrongName c = search (rules, laws)

pub returns-in-WrongValue : goal.returns-in-WrongValue
returns-in-WrongValue c = search (rules, laws)
