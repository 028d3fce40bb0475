use Rattle.std.proofs.Common.{rules}
use Rattle.header_validations.proofs.Laws.{laws}
use Rattle.header_validations.proofs.is_ruled_out.Goals as goal

pub returns-then-is_other : goal.returns-then-is_other
returns-then-is_other c = search (rules, laws)
