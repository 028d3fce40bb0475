use Rattle.std.proofs.Common.{rules}
use Rattle.totals_text.proofs.Laws.{laws}
use Rattle.totals_text.proofs.append_number.Goals as goal

pub returns : goal.returns
returns c = search (rules, laws)
