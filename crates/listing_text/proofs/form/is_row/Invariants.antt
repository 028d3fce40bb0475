use Rattle.listing_text.proofs.Forming.{Counting}
use Rattle.listing_text.proofs.form.is_row.Given as goal

abbrev pub invariant-loop-more : goal.invariant-loop-more
invariant-loop-more l = Counting l.s l.at l.more
