use Rattle.append.proofs.Laws.{Going}
use Rattle.append.proofs.append.Given as goal

abbrev pub invariant-loop-i : goal.invariant-loop-i
invariant-loop-i l = Going l.buffer l.initial.buffer l.bytes l.at l.i
