use Rattle.std.proofs.Common.{rules}
use Rattle.text.proofs.Fields.{end_laws}
use Rattle.text.proofs.lines.line_end.Goals as goal

pub returns : goal.returns
returns c = search (rules, end_laws)
