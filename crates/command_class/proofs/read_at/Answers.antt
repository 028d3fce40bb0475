use Rattle.std.proofs.Common.{rules}
use Rattle.command_class.proofs.Rows.{read_laws}
use Rattle.command_class.proofs.read_at.Goals as goal

pub read_row-requires : goal.read_row-requires
read_row-requires c = search (rules, read_laws)
