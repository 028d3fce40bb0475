use Rattle.std.proofs.Common.{rules}
use Rattle.header_value.proofs.Laws.{field-shown}
use Rattle.header_value.proofs.field_value.Goals as goal

pub returns : goal.returns
returns c = search (rules, field-shown)
