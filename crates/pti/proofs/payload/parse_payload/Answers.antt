use Rattle.std.proofs.Common.{rules}
use Rattle.pti.proofs.Laws.{laws}
use Rattle.pti.proofs.payload.parse_payload.Goals as goal

pub returns-in_default : goal.returns-in_default
returns-in_default c = search (rules, laws)
