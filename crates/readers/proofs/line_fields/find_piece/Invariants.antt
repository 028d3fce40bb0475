use Rattle.readers.proofs.line_fields.Laws.{Left}
use Rattle.readers.proofs.line_fields.find_piece.Given as goal

abbrev pub invariant-loop : goal.invariant-loop
invariant-loop l = Left l.b l.s l.k l.at l.counter
