use Rattle.std.proofs.Common.{rules}
use Rattle.frame_definition.proofs.Finding.{key_laws}
use Rattle.frame_definition.proofs.base_key.Goals as goal

pub loop-place-preserved-then-text-at-ne70 : goal.loop-place-preserved-then-text-at-ne70
loop-place-preserved-then-text-at-ne70 c = search (rules, key_laws)

pub is_keyed-requires : goal.is_keyed-requires
is_keyed-requires c = search (rules, key_laws)

pub value-requires : goal.value-requires
value-requires c = search (rules, key_laws)

pub returns-then-is_keyed : goal.returns-then-is_keyed
returns-then-is_keyed c = search (rules, key_laws)
