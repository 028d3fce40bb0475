use Rattle.std.proofs.Common.{rules}
use Rattle.xml_tags.proofs.Laws.{laws}
use Rattle.xml_tags.proofs.value_of.Goals as goal

pub returns-then-is_named : goal.returns-then-is_named
returns-then-is_named c = search (rules, laws)
