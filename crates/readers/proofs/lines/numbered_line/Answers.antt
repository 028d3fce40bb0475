use Rattle.std.proofs.Common.{rules}
use Rattle.readers.proofs.lines.Laws.{counts_laws}
use Rattle.readers.proofs.lines.numbered_line.Goals as goal

pub returns-then-left-eq0 : goal.returns-then-left-eq0
returns-then-left-eq0 c = search (rules, counts_laws)
