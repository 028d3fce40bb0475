use Rattle.std.proofs.Common.{rules}
use Rattle.listing.proofs.Laws.{laws}
use Rattle.listing.proofs.write_rows.Goals as goal

pub returns : goal.returns
returns c = search (rules, laws)
