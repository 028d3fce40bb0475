use Rattle.std.proofs.Common.{rules}
use Rattle.command_param.proofs.Laws.{row_laws}
use Rattle.command_param.proofs.write_children.Goals as goal

pub returns-then-bytes-ne1-clause-writes : goal.returns-then-bytes-ne1-clause-writes
returns-then-bytes-ne1-clause-writes c = search (rules, row_laws)

pub returns-then-total-eq0-clause-writes : goal.returns-then-total-eq0-clause-writes
returns-then-total-eq0-clause-writes c = search (rules, row_laws)

pub returns-then-is_left_out-clause-writes : goal.returns-then-is_left_out-clause-writes
returns-then-is_left_out-clause-writes c = search (rules, row_laws)
