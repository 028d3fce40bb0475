use Rattle.std.proofs.Common.{rules, refl}
use Rattle.header_walk.proofs.Laws.{next_in, next_level, next_fits, outer_laws}
use Rattle.header_walk.proofs.walk_from.Goals as goal

pub loop-outer-init : goal.loop-outer-init
loop-outer-init c = search (rules, outer_laws)

pub returns-in_default : goal.returns-in_default
returns-in_default c = search (rules, outer_laws)

pub overflow_add-place : goal.overflow_add-place
overflow_add-place c =
    next_fits _ _ _ _ _ _ _ c.next_field.ensures _ c.in-Some.is c.requires.shaped.few c.requires.first_le_count.0

pub decode_param-requires-clause-place_lt_count : goal.decode_param-requires-clause-place_lt_count
decode_param-requires-clause-place_lt_count c = (
  next_in _ _ _ _ _ _ _ c.next_field.ensures _ c.in-Some.is c.requires.shaped.few c.requires.first_le_count.0,
  next_level _ _ _ _ _ _ _ c.next_field.ensures _ c.in-Some.is c.requires.shaped.few c.requires.first_le_count.0 _ refl,
  search (rules, outer_laws),
  search (rules, outer_laws),
)

pub returns-in_default-decode_param : goal.returns-in_default-decode_param
returns-in_default-decode_param c = search (rules, outer_laws)

pub loop-outer-preserved : goal.loop-outer-preserved
loop-outer-preserved c = search (rules, outer_laws)
