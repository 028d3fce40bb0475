use Rattle.std.proofs.Common.{rules}
use Rattle.totals.proofs.Laws.{laws}
use Rattle.totals.proofs.count_frames.Goals as goal

pub returns : goal.returns
returns c = search (rules, laws)
