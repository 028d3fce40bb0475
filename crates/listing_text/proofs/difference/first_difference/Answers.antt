use Rattle.std.proofs.Common.{rules}
use Rattle.listing_text.proofs.Laws.{laws}
use Rattle.listing_text.proofs.difference.first_difference.Goals as goal

pub loop-k-preserved : goal.loop-k-preserved
loop-k-preserved c = search (rules, laws)
