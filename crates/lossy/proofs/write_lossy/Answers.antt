use Rattle.std.proofs.Common.{rules}
use Rattle.lossy.proofs.Laws.{laws}
use Rattle.lossy.proofs.write_lossy.Goals as goal

pub returns-then-buffer-needed : goal.returns-then-buffer-needed
returns-then-buffer-needed c = search (rules, laws)

pub returns : goal.returns
returns c = search (rules, laws)
