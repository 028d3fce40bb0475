use Rattle.std.proofs.Common.{rules}
use Rattle.totals.proofs.Laws.{laws}
use Rattle.totals.proofs.add_accepted.Goals as goal

pub returns : goal.returns
returns c = search (rules, laws)
