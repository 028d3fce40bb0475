use Rattle.xml_spelling.proofs.Laws.{Escaping}
use Rattle.xml_spelling.proofs.append_escaped.Given as goal

abbrev pub invariant-loop-b : goal.invariant-loop-b
invariant-loop-b l = Escaping l.s l.buffer l.initial.buffer l.next l.at l.b-index
