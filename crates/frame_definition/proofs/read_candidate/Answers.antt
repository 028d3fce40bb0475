use Rattle.std.proofs.Common.{rules}
use Rattle.frame_definition.proofs.Candidates.{header_laws}
use Rattle.frame_definition.proofs.read_candidate.Goals as goal

pub field-len-requires : goal.field-len-requires
field-len-requires c = search (rules, header_laws)
