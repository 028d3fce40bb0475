use Rattle.std.proofs.Common.{rules}
use Rattle.xml_reader.proofs.Laws.{owned_laws}
use Rattle.xml_reader.proofs.put_owned.Goals as goal

pub returns : goal.returns
returns c = search (rules, owned_laws)
