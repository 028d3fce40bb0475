use Rattle.std.proofs.Common.{rules}
use Rattle.xml_elements.proofs.Laws.{tag_laws}
use Rattle.xml_elements.proofs.append_tag.Goals as goal

pub returns : goal.returns
returns c = search (rules, tag_laws)
