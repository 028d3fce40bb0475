use Rattle.std.proofs.Common.{rules}
use Rattle.pti.proofs.Laws.{laws}
use Rattle.pti.proofs.payload.write_frames.Goals as goal

pub loop-next-init : goal.loop-next-init
loop-next-init c = search (rules, laws)

pub write_frame-n-requires-clause-row_width_in_bounds :
    goal.write_frame-n-requires-clause-row_width_in_bounds
write_frame-n-requires-clause-row_width_in_bounds c = search (rules, laws)

pub returns-in_default : goal.returns-in_default
returns-in_default c = search (rules, laws)

pub loop-next-preserved : goal.loop-next-preserved
loop-next-preserved c = search (rules, laws)
