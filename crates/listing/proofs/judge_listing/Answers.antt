use Rattle.std.proofs.Common.{rules}
use Rattle.listing.proofs.Laws.{laws}
use Rattle.listing.proofs.judge_listing.Goals as goal

pub judge_beside-requires : goal.judge_beside-requires
judge_beside-requires c = search (rules, laws)
