use Rattle.std.proofs.Common.{rules}
use Rattle.sorting.proofs.Laws.{laws}
use Rattle.sorting.proofs.choose.Goals as goal

pub returns-then-text-at-ne72 : goal.returns-then-text-at-ne72
returns-then-text-at-ne72 c = search (rules, laws)

pub returns : goal.returns
returns c = search (rules, laws)
