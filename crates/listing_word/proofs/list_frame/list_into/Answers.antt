use Rattle.std.proofs.Common.{rules}
use Rattle.listing_word.proofs.Laws.{laws}
use Rattle.listing_word.proofs.list_frame.list_into.Goals as goal

pub slice_bounds-write_text-end-in-Ok : goal.slice_bounds-write_text-end-in-Ok
slice_bounds-write_text-end-in-Ok c = search (rules, laws)
