use Rattle.std.proofs.Common.{rules}
use Rattle.frame_definition.proofs.Finding.{base_laws}
use Rattle.frame_definition.proofs.find_base.Goals as goal

pub loop-place-preserved-then-kind-ne66 : goal.loop-place-preserved-then-kind-ne66
loop-place-preserved-then-kind-ne66 c = search (rules, base_laws)

pub is_keyed-requires : goal.is_keyed-requires
is_keyed-requires c = search (rules, base_laws)
