use Rattle.std.proofs.Common.{rules}
use Rattle.xml_elements.proofs.Laws.{element_laws}
use Rattle.xml_elements.proofs.append_element.Goals as goal

pub returns : goal.returns
returns c = search (rules, element_laws)
