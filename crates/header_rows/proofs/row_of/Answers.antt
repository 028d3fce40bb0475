use Rattle.std.proofs.Common.{rules}
use Rattle.header_rows.proofs.Laws.{laws}
use Rattle.header_rows.proofs.row_of.Goals as goal

pub returns : goal.returns
returns c = search (rules, laws)
