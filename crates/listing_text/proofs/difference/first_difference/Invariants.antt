use Rattle.listing_text.proofs.Differing.{Comparing}
use Rattle.listing_text.proofs.difference.first_difference.Given as goal

abbrev pub invariant-loop-k : goal.invariant-loop-k
invariant-loop-k l = Comparing l.listing l.rows l.count l.number l.at l.k
