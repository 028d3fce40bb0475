use Rattle.std.proofs.Common.{rules}
use Rattle.overlaps.proofs.Laws.{laws}
use Rattle.overlaps.proofs.tell_numbers.Goals as goal

pub returns : goal.returns
returns c = search (rules, laws)
