use Rattle.std.proofs.Common.{rules}
use Rattle.header_named.proofs.Laws.{laws}
use Rattle.header_named.proofs.find_named.Goals as goal

pub loop-candidate-init : goal.loop-candidate-init
loop-candidate-init c = search (rules, laws)
