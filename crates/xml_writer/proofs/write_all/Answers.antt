use Rattle.std.proofs.Common.{rules}
use Rattle.xml_writer.proofs.Laws.{laws}
use Rattle.xml_writer.proofs.write_all.Goals as goal

pub returns : goal.returns
returns c = search (rules, laws)
