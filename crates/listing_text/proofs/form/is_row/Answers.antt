use Rattle.std.proofs.Common.{rules}
use Rattle.listing_text.proofs.Laws.{laws}
use Rattle.listing_text.proofs.form.is_row.Goals as goal

pub returns-then-is_none : goal.returns-then-is_none
returns-then-is_none c = search (rules, laws)

pub returns-then-e-rest : goal.returns-then-e-rest
returns-then-e-rest c = search (rules, laws)

pub loop-more-preserved : goal.loop-more-preserved
loop-more-preserved c = search (rules, laws)
