use Rattle.std.proofs.Common.{rules}
use Rattle.overlaps.proofs.Laws.{laws}
use Rattle.overlaps.proofs.headers.is_validated.Goals as goal

pub returns-in-At : goal.returns-in-At
returns-in-At c = search (rules, laws)

pub returns-in_default : goal.returns-in_default
returns-in_default c = search (rules, laws)
