use Rattle.std.proofs.Common.{rules}
use Rattle.xml_reader.proofs.Laws.{blocking_laws}
use Rattle.xml_reader.proofs.put_blocks.Goals as goal

pub loop-rest-preserved : goal.loop-rest-preserved
loop-rest-preserved c = search (rules, blocking_laws)

pub returns-then-e-rest : goal.returns-then-e-rest
returns-then-e-rest c = search (rules, blocking_laws)
