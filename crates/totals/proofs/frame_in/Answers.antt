use Rattle.frame.proofs.Laws.{parts_in}
use Rattle.totals.proofs.Laws.{framed_one}
use Rattle.totals.proofs.frame_in.Goals as goal

pub frame_of-requires-clause-inside : goal.frame_of-requires-clause-inside
frame_of-requires-clause-inside c = parts_in _ _ c.split_body.result c.split_body.ensures _ c.in_ok-parts.was

pub returns : goal.returns
returns c = framed_one _ _ c.split_body.result c.split_body.ensures _ _ c.frame_of.ensures c.in_ok-parts.was
