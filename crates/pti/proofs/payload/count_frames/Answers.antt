use Rattle.std.proofs.Common.{rules}
use Rattle.pti.proofs.Laws.{laws}
use Rattle.pti.proofs.payload.count_frames.Goals as goal

pub loop-span-preserved : goal.loop-span-preserved
loop-span-preserved c = search (rules, laws)

pub returns : goal.returns
returns c = search (rules, laws)
