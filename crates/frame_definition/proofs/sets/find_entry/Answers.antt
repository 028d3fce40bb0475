use Rattle.std.proofs.Common.{rules}
use Rattle.frame_definition.proofs.Symbols.{entry_laws}
use Rattle.frame_definition.proofs.sets.find_entry.Goals as goal

pub value-requires : goal.value-requires
value-requires c = search (rules, entry_laws)

pub loop-at-preserved : goal.loop-at-preserved
loop-at-preserved c = search (rules, entry_laws)
