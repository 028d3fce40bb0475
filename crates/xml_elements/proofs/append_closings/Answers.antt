use Rattle.std.proofs.Common.{rules}
use Rattle.xml_elements.proofs.Laws.{laws}
use Rattle.xml_elements.proofs.append_closings.Goals as goal

pub loop-preserved : goal.loop-preserved
loop-preserved c = search (rules, laws)
