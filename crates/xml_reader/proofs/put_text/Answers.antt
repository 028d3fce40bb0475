use Rattle.std.proofs.Common.{rules}
use Rattle.xml_reader.proofs.Laws.{text_laws}
use Rattle.xml_reader.proofs.put_text.Goals as goal

pub returns : goal.returns
returns c = search (rules, text_laws)
