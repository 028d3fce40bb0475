use Rattle.std.proofs.Common.{rules}
use Rattle.readers.proofs.lines.Laws.{seeks_laws}
use Rattle.readers.proofs.lines.find_line.Goals as goal

pub returns-then-left-eq0 : goal.returns-then-left-eq0
returns-then-left-eq0 c = search (rules, seeks_laws)
