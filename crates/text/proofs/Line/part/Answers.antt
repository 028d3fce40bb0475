use Rattle.std.proofs.Common.{rules}
use Rattle.text.proofs.Laws.{mark_laws}
use Rattle.text.proofs.Line.part.Goals as goal

pub returns : goal.returns
returns c = search (rules, mark_laws)
