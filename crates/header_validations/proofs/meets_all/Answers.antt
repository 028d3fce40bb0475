use Rattle.std.proofs.Common.{rules}
use Rattle.header_validations.proofs.Laws.{laws}
use Rattle.header_validations.proofs.meets_all.Goals as goal

pub returns-then-not-is_met : goal.returns-then-not-is_met
returns-then-not-is_met c = search (rules, laws)
