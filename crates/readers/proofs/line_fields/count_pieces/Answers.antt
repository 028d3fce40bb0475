use Rattle.std.proofs.Common.{rules}
use Rattle.readers.proofs.line_fields.Laws.{count_laws}
use Rattle.readers.proofs.line_fields.Laws.{step_laws}
use Rattle.readers.proofs.line_fields.count_pieces.Goals as goal

pub returns-then-e-rest : goal.returns-then-e-rest
returns-then-e-rest c = search (rules, count_laws, step_laws)

pub loop-b-preserved : goal.loop-b-preserved
loop-b-preserved c = search (rules, count_laws, step_laws)
