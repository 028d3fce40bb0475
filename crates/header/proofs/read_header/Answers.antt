use Rattle.std.proofs.Common.{rules}
use Rattle.header.proofs.Laws.{laws}
use Rattle.header.proofs.read_header.Goals as goal

pub returns : goal.returns
returns c = search (rules, laws)
