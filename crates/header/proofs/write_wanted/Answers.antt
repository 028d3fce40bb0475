use Rattle.std.proofs.Common.{rules}
use Rattle.header.proofs.Laws.{laws}
use Rattle.header.proofs.write_wanted.Goals as goal

pub returns-then-k-read : goal.returns-then-k-read
returns-then-k-read c = search (rules, laws)

pub returns-else-k-read : goal.returns-else-k-read
returns-else-k-read c = search (rules, laws)
