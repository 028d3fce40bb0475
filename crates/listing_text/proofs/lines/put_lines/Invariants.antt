use Rattle.listing_text.proofs.Lining.{Filling}
use Rattle.listing_text.proofs.lines.put_lines.Given as goal

abbrev pub invariant-loop-k : goal.invariant-loop-k
invariant-loop-k l = Filling l.rows l.count l.number l.initial.buffer l.buffer l.at l.k
