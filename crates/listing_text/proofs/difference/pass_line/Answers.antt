use Rattle.std.proofs.Common.{rules}
use Rattle.listing_text.proofs.Laws.{laws}
use Rattle.listing_text.proofs.difference.pass_line.Goals as goal

pub returns-then-s-n : goal.returns-then-s-n
returns-then-s-n c = search (rules, laws)
