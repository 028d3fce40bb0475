use Rattle.std.proofs.Common.{rules}
use Rattle.header_rows.proofs.Laws.{laws}
use Rattle.header_rows.proofs.write_rows.Goals as goal

pub loop-k-init : goal.loop-k-init
loop-k-init c = search (rules, laws)
