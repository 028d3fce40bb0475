use Rattle.std.proofs.Common.{rules}
use Rattle.overlaps.proofs.Laws.{laws}
use Rattle.overlaps.proofs.headers.tell_each.Goals as goal

pub loop-beside-preserved : goal.loop-beside-preserved
loop-beside-preserved c = search (rules, laws)
