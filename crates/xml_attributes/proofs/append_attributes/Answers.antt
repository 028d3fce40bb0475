use Rattle.std.proofs.Common.{rules}
use Rattle.xml_attributes.proofs.Laws.{laws}
use Rattle.xml_attributes.proofs.append_attributes.Goals as goal

pub loop-a-preserved : goal.loop-a-preserved
loop-a-preserved c = search (rules, laws)
