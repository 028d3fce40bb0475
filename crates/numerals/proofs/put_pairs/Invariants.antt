use Rattle.numerals.proofs.Laws.{Pairing}
use Rattle.numerals.proofs.put_pairs.Given as goal

abbrev pub invariant-loop-i : goal.invariant-loop-i
invariant-loop-i l = Pairing l.buffer l.initial.buffer l.bytes l.at l.i
