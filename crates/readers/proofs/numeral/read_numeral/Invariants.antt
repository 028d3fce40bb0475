use Rattle.readers.proofs.numeral.Laws.{Typing}
use Rattle.readers.proofs.numeral.read_numeral.Given as goal

abbrev pub invariant-loop-b : goal.invariant-loop-b
invariant-loop-b l = Typing l.bytes l.value l.b-index
