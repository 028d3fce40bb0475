use Rattle.std.proofs.Common.{rules}
use Rattle.sorting.proofs.Laws.{laws}
use Rattle.sorting.proofs.sort_within.Goals as goal

pub returns : goal.returns
returns c = search (rules, laws)
