use Rattle.std.proofs.Common.{rules}
use Rattle.xml_values.specs.Values.{trues}
use Rattle.xml_values.proofs.Laws.{laws}
use Rattle.xml_values.proofs.is_true.Goals as goal

pub returns : goal.returns
unfolding trues
returns c = search (rules, laws)
