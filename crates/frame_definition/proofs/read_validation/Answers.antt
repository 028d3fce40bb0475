use Rattle.std.proofs.Common.{rules}
use Rattle.frame_definition.proofs.Lines.{validation_laws}
use Rattle.frame_definition.proofs.read_validation.Goals as goal

pub returns : goal.returns
returns c = search (rules, validation_laws)
