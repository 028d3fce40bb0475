use Rattle.std.proofs.Common.{rules}
use Rattle.xml_schema.proofs.Laws.{laws}
use Rattle.xml_schema.specs.Schema.{table}
use Rattle.xml_schema.proofs.letter_of.Goals as goal

pub returns : goal.returns
unfolding table
returns c = search (rules, laws)
