use Rattle.std.proofs.Common.{rules}
use Rattle.listing_text.proofs.Laws.{laws}
use Rattle.listing_text.proofs.form.read_form.Goals as goal

pub returns-then-next-listing : goal.returns-then-next-listing
returns-then-next-listing c = search (rules, laws)
