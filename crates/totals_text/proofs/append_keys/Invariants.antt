use Rattle.totals_text.proofs.Laws.{Keying}
use Rattle.totals_text.proofs.append_keys.Given as goal

abbrev pub invariant-loop-i : goal.invariant-loop-i
invariant-loop-i l = Keying l.totals l.initial.buffer l.buffer l.at l.i
