use Rattle.std.proofs.Common.{rules}
use Rattle.xml.proofs.Laws.{copy_laws}
use Rattle.xml.proofs.copy_text.Goals as goal

pub returns : goal.returns
returns c = search (rules, copy_laws)
