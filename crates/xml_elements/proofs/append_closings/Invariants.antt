use Rattle.xml_elements.proofs.Laws.{Closing}
use Rattle.xml_elements.proofs.append_closings.Given as goal

abbrev pub invariant-loop : goal.invariant-loop
invariant-loop l = Closing l.n l.d l.buffer l.initial.buffer l.next l.at l.counter l.place
