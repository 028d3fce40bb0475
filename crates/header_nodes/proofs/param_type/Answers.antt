use Rattle.std.proofs.Common.{rules}
use Rattle.header_nodes.specs.Fields.{param_type}
use Rattle.header_nodes.proofs.Types.{type_laws}
use Rattle.header_nodes.proofs.param_type.Goals as goal

pub returns : goal.returns
unfolding param_type
returns c = search (rules, type_laws)
