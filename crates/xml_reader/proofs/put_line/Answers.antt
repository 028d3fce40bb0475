use Rattle.std.proofs.Common.{rules}
use Rattle.xml_reader.proofs.Laws.{line_laws}
use Rattle.xml_reader.proofs.put_line.Goals as goal

pub returns : goal.returns
returns c = search (rules, line_laws)
