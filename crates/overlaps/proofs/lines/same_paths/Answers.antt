use Rattle.std.proofs.Common.{rules}
use Rattle.overlaps.proofs.Laws.{laws}
use Rattle.overlaps.proofs.lines.same_paths.Goals as goal

pub returns-then-not-same_given : goal.returns-then-not-same_given
returns-then-not-same_given c = search (rules, laws)

pub returns : goal.returns
returns c = search (rules, laws)
