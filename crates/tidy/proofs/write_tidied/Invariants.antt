use Rattle.tidy.proofs.Laws.{Tidying}
use Rattle.tidy.proofs.write_tidied.Given as goal

abbrev pub invariant-loop-i : goal.invariant-loop-i
invariant-loop-i l = Tidying l.text l.initial.buffer l.buffer l.i l.first
