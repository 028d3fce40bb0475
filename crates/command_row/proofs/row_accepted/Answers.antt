use Rattle.std.proofs.Common.{rules}
use Rattle.command_row.proofs.Laws.{laws}
use Rattle.command_row.proofs.row_accepted.Goals as goal

pub row_by-requires : goal.row_by-requires
row_by-requires c = search (rules, laws)

pub row_by-requires-2 : goal.row_by-requires-2
row_by-requires-2 c = search (rules, laws)
