use Rattle.std.proofs.Common.{rules}
use Rattle.command_class.proofs.Rows.{row_laws}
use Rattle.command_class.proofs.read_variant.Goals as goal

pub value-requires : goal.value-requires
value-requires c = search (rules, row_laws)

pub value-requires-2 : goal.value-requires-2
value-requires-2 c = search (rules, row_laws)

pub optional_value-requires : goal.optional_value-requires
optional_value-requires c = search (rules, row_laws)

pub value-requires-3 : goal.value-requires-3
value-requires-3 c = search (rules, row_laws)
