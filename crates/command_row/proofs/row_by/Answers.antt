use Rattle.std.proofs.Common.{rules}
use Rattle.command_row.proofs.Laws.{laws}
use Rattle.command_row.proofs.row_by.Goals as goal

pub returns : goal.returns
returns c = search (rules, laws)
