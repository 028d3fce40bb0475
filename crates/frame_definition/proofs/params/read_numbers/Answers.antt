use Rattle.std.proofs.Common.{rules}
use Rattle.frame_definition.proofs.Lines.{numbers_laws}
use Rattle.frame_definition.proofs.params.read_numbers.Goals as goal

pub returns : goal.returns
returns c = search (rules, numbers_laws)
