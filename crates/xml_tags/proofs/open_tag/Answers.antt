use Rattle.std.proofs.Common.{rules}
use Rattle.xml_tags.proofs.Laws.{laws}
use Rattle.xml_tags.proofs.open_tag.Goals as goal

pub returns-then-k-lt-COUNT : goal.returns-then-k-lt-COUNT
returns-then-k-lt-COUNT c = search (rules, laws)
