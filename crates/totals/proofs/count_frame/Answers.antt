use Rattle.std.proofs.Common.{rules}
use Rattle.totals.proofs.Laws.{laws}
use Rattle.totals.proofs.count_frame.Goals as goal

pub returns-then-repeats-eq0 : goal.returns-then-repeats-eq0
returns-then-repeats-eq0 c = search (rules, laws)

pub count_beam-requires : goal.count_beam-requires
count_beam-requires c = search (rules, laws)

pub returns : goal.returns
returns c = search (rules, laws)
