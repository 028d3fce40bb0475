use Rattle.std.proofs.Common.{rules}
use Rattle.totals.proofs.Laws.{laws}
use Rattle.totals.proofs.count_body.Goals as goal

pub count_frame-requires-clause-lies : goal.count_frame-requires-clause-lies
count_frame-requires-clause-lies c = search (rules, laws)

pub returns : goal.returns
returns c = search (rules, laws)
