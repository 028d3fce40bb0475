use Rattle.sorting.proofs.Laws.{sorts_accepted}
use Rattle.sorting.proofs.sort_headers.Goals as goal

pub returns : goal.returns
returns c = sorts_accepted _ _ _ c.check_frame_text.ensures _ _ c.in_ok-check_frame_text.was c.sort_within.ensures
