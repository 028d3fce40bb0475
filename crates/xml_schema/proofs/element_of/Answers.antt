use Rattle.std.proofs.Common.{rules}
use Rattle.xml_schema.proofs.Laws.{laws}
use Rattle.xml_schema.specs.Schema.{elements}
use Rattle.xml_schema.proofs.element_of.Goals as goal

pub returns : goal.returns
unfolding elements
returns c = search (rules, laws)
