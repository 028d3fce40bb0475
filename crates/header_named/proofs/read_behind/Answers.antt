use Rattle.std.proofs.Common.{rules}
use Rattle.header_named.proofs.Laws.{laws}
use Rattle.header_named.proofs.read_behind.Goals as goal

pub returns : goal.returns
returns c = search (rules, laws)
