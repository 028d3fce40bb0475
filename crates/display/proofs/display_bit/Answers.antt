use Rattle.std.proofs.Common.{rules}
use Rattle.display.proofs.Laws.{laws}
use Rattle.display.proofs.display_bit.Goals as goal

pub returns-then-flag : goal.returns-then-flag
returns-then-flag c = search (rules, laws)

pub returns : goal.returns
returns c = search (rules, laws)
