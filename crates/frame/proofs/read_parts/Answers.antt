use Rattle.std.proofs.Common.{rules}
use Rattle.frame.proofs.Laws.{laws}
use Rattle.frame.proofs.read_parts.Goals as goal

pub returns : goal.returns
returns c = search (rules, laws)
