use Rattle.std.proofs.Common.{rules}
use Rattle.records.proofs.Laws.{laws}
use Rattle.records.proofs.next_body.Goals as goal

pub returns-then-n-ge2 : goal.returns-then-n-ge2
returns-then-n-ge2 c = search (rules, laws)
