use Rattle.std.proofs.Common.{rules}
use Rattle.pti.proofs.Laws.{laws}
use Rattle.pti.proofs.payload.write_frame.Goals as goal

pub returns-then-bytes-lt-SHORTEST_BODY : goal.returns-then-bytes-lt-SHORTEST_BODY
returns-then-bytes-lt-SHORTEST_BODY c = search (rules, laws)

pub frame_of-requires-clause-inside : goal.frame_of-requires-clause-inside
frame_of-requires-clause-inside c = search (rules, laws)

pub write_row-requires-clause-low : goal.write_row-requires-clause-low
write_row-requires-clause-low c = search (rules, laws)

pub returns : goal.returns
returns c = search (rules, laws)
