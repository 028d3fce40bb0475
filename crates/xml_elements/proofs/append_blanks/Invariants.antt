use Rattle.xml_elements.proofs.Laws.{Blanking}
use Rattle.xml_elements.proofs.append_blanks.Given as goal

abbrev pub invariant-loop : goal.invariant-loop
invariant-loop l = Blanking l.n l.buffer l.initial.buffer l.next l.at l.counter
