use Rattle.std.proofs.Common.{rules}
use Rattle.text.proofs.Laws.{front_count}
use Rattle.totals_word.proofs.words_page.Laws.{named_laws}
use Rattle.totals_word.proofs.words_page.name_of.Goals as goal

pub returns-then-is_number : goal.returns-then-is_number
returns-then-is_number c = search (rules, front_count, named_laws)
