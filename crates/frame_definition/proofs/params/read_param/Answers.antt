use Rattle.std.proofs.Common.{rules}
use Rattle.frame_definition.proofs.Lines.{param_laws}
use Rattle.frame_definition.proofs.params.read_param.Goals as goal

pub read_numbers-numbers-requires : goal.read_numbers-numbers-requires
read_numbers-numbers-requires c = search (rules, param_laws)

pub field_end-type_end-requires : goal.field_end-type_end-requires
field_end-type_end-requires c = search (rules, param_laws)

pub type_of-requires : goal.type_of-requires
type_of-requires c = search (rules, param_laws)

pub returns : goal.returns
returns c = search (rules, param_laws)
