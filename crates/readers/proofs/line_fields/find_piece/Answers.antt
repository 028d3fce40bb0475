use Rattle.std.proofs.Common.{rules}
use Rattle.readers.proofs.line_fields.Laws.{left_laws}
use Rattle.readers.proofs.line_fields.Laws.{step_laws}
use Rattle.readers.proofs.line_fields.find_piece.Goals as goal

pub returns-then-e-rest : goal.returns-then-e-rest
returns-then-e-rest c = search (rules, left_laws, step_laws)

pub loop-preserved : goal.loop-preserved
loop-preserved c = search (rules, left_laws, step_laws)

pub returns : goal.returns
returns c = search (rules, left_laws, step_laws)
