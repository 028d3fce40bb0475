use Rattle.std.proofs.Common.{rules}
use Rattle.buffer.proofs.Laws.{laws}
use Rattle.buffer.proofs.write.Goals as goal

pub returns : goal.returns
returns c = search (rules, laws)
