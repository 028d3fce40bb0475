use Rattle.std.proofs.Common.{rules}
use Rattle.xml_values.specs.Values.{falses}
use Rattle.xml_values.proofs.Laws.{laws}
use Rattle.xml_values.proofs.is_false.Goals as goal

pub returns : goal.returns
unfolding falses
returns c = search (rules, laws)
