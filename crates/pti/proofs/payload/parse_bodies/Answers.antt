use Rattle.std.proofs.Common.{rules}
use Rattle.pti.proofs.Laws.{laws}
use Rattle.pti.proofs.payload.parse_bodies.Goals as goal

pub returns : goal.returns
returns c = search (rules, laws)
