use Rattle.std.proofs.Common.{rules}
use Rattle.listing_text.proofs.Laws.{laws}
use Rattle.listing_text.proofs.lines.put_number.Goals as goal

pub returns : goal.returns
returns c = search (rules, laws)
