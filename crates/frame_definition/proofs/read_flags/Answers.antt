use Rattle.std.proofs.Common.{rules}
use Rattle.frame_definition.proofs.Candidates.{header_laws}
use Rattle.frame_definition.proofs.read_flags.Goals as goal

pub field-s-requires : goal.field-s-requires
field-s-requires c = search (rules, header_laws)

pub bounds-s-0 : goal.bounds-s-0
bounds-s-0 c = search (rules, header_laws)

pub bounds-s-1 : goal.bounds-s-1
bounds-s-1 c = search (rules, header_laws)

pub bounds-s-2 : goal.bounds-s-2
bounds-s-2 c = search (rules, header_laws)

pub bounds-s-3 : goal.bounds-s-3
bounds-s-3 c = search (rules, header_laws)
