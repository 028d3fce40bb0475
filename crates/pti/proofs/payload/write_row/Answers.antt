use Rattle.std.proofs.Common.{rules}
use Rattle.pti.proofs.Laws.{laws}
use Rattle.pti.proofs.payload.write_row.Goals as goal

pub returns : goal.returns
returns c = search (rules, laws)
