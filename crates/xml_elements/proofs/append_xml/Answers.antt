use Rattle.std.proofs.Common.{rules}
use Rattle.xml_elements.specs.Elements.{opening}
use Rattle.xml_elements.proofs.Laws.{xml_laws}
use Rattle.xml_elements.proofs.append_xml.Goals as goal

pub append-next-requires : goal.append-next-requires
unfolding opening
append-next-requires c = search (rules, xml_laws)

pub append_lines-requires : goal.append_lines-requires
unfolding opening
append_lines-requires c = search (rules, xml_laws)

pub returns : goal.returns
unfolding opening
returns c = search (rules, xml_laws)
