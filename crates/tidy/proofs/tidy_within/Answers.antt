use Rattle.std.proofs.Common.{rules}
use Rattle.tidy.proofs.Laws.{laws}
use Rattle.tidy.proofs.tidy_within.Goals as goal

pub returns : goal.returns
returns c = search (rules, laws)
