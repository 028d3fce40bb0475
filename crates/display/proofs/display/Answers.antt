use Rattle.std.proofs.Common.{rules}
use Rattle.display.proofs.Laws.{laws}
use Rattle.display.proofs.display.Goals as goal

pub returns-then-ascii : goal.returns-then-ascii
returns-then-ascii c = search (rules, laws)

pub returns-then-name-ne0 : goal.returns-then-name-ne0
returns-then-name-ne0 c = search (rules, laws)

pub returns-then-bytes-le4 : goal.returns-then-bytes-le4
returns-then-bytes-le4 c = search (rules, laws)

pub returns : goal.returns
returns c = search (rules, laws)
