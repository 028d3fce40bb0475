use Rattle.std.proofs.Common.{rules}
use Rattle.frame_requests.proofs.Laws.{laws}
use Rattle.frame_requests.proofs.frame_table.frame_table.Goals as goal

pub returns : goal.returns
returns c = search (rules, laws)
