use Rattle.std.proofs.Common.{rules}
use Rattle.xml_elements.proofs.Laws.{laws}
use Rattle.xml_elements.proofs.append_shut.Goals as goal

pub returns : goal.returns
returns c = search (rules, laws)
