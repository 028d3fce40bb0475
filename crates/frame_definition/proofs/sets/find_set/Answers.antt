use Rattle.std.proofs.Common.{rules}
use Rattle.frame_definition.proofs.Symbols.{set_laws}
use Rattle.frame_definition.proofs.sets.find_set.Goals as goal

pub is_named-requires : goal.is_named-requires
is_named-requires c = search (rules, set_laws)
