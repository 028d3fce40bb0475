use Rattle.std.proofs.Common.{rules}
use Rattle.header_candidates.proofs.Laws.{laws}
use Rattle.header_candidates.proofs.read_base.Goals as goal

pub returns : goal.returns
returns c = search (rules, laws)
