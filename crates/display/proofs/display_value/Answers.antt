use Rattle.std.proofs.Common.{rules}
use Rattle.display.proofs.Laws.{laws}
use Rattle.display.proofs.display_value.Goals as goal

pub returns-then-symbol-ne0 : goal.returns-then-symbol-ne0
returns-then-symbol-ne0 c = search (rules, laws)

pub returns-then-shows_bytes : goal.returns-then-shows_bytes
returns-then-shows_bytes c = search (rules, laws)

pub returns : goal.returns
returns c = search (rules, laws)
