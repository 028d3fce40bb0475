use Rattle.std.proofs.Common.{rules}
use Rattle.xml_elements.proofs.Laws.{rest_laws}
use Rattle.xml_elements.proofs.append_rest.Goals as goal

pub returns : goal.returns
returns c = search (rules, rest_laws)
