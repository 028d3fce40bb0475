use Rattle.std.proofs.Common.{rules}
use Rattle.xml_attributes.proofs.Laws.{laws}
use Rattle.xml_attributes.proofs.append_label.Goals as goal

pub returns : goal.returns
returns c = search (rules, laws)
