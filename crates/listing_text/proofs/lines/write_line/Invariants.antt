use Rattle.listing_text.proofs.Lining.{Lining}
use Rattle.listing_text.proofs.lines.write_line.Given as goal

abbrev pub invariant-loop-i : goal.invariant-loop-i
invariant-loop-i l = Lining l.numbers l.initial.line l.line l.at l.i
