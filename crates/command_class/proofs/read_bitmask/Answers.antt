use Rattle.std.proofs.Common.{rules}
use Rattle.command_class.proofs.Rows.{row_laws}
use Rattle.command_class.proofs.read_bitmask.Goals as goal

pub field-requires : goal.field-requires
field-requires c = search (rules, row_laws)
