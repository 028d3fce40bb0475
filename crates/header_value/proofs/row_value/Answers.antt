use Rattle.std.proofs.Common.{rules}
use Rattle.header_value.proofs.Laws.{row-none, row-shown}
use Rattle.header_value.proofs.row_value.Goals as goal

pub returns-in_default : goal.returns-in_default
returns-in_default c = search (rules, row-none)

pub returns : goal.returns
returns c = search (rules, row-shown)
