-- By the laws of the crate: what is left is read after what has been read.
use Rattle.std.proofs.Common.{rules, arith}
use Rattle.header_walk.specs.Steps.{field_read}
use Rattle.header_walk.proofs.Laws.{next_in, next_level, next_fits, field-missing, field_leaf, field_tree, inner_takes, inner_skips, field_laws, inner_laws}
use Rattle.header_walk.proofs.+decode_inner_decode_param.Goals as goal

pub decode_inner-loop-inner-init : goal.decode_inner-loop-inner-init
decode_inner-loop-inner-init t c = search (rules, inner_laws)

pub decode_inner-next_field-requires : goal.decode_inner-next_field-requires
decode_inner-next_field-requires t c = search (rules, inner_laws)

pub decode_inner-returns-in_default : goal.decode_inner-returns-in_default
decode_inner-returns-in_default t c = search (rules, inner_laws)

pub decode_inner-overflow_add-place : goal.decode_inner-overflow_add-place
decode_inner-overflow_add-place t c = next_fits _ _ _ _ _ _ _ c.next_field.ensures _ c.in-Some.is c.requires.shaped.few (omega arith)

pub decode_inner-returns-then-room-bits : goal.decode_inner-returns-then-room-bits
decode_inner-returns-then-room-bits t c = search (rules, inner_laws)

pub decode_inner-overflow_sub-bit : goal.decode_inner-overflow_sub-bit
decode_inner-overflow_sub-bit t c = search (rules, inner_laws)

pub decode_inner-decode_param-requires : goal.decode_inner-decode_param-requires
decode_inner-decode_param-requires t c = (
  search (rules, inner_laws),
  (
    search (rules, inner_laws),
    (
      next_in _ _ _ _ _ _ _ c.next_field.ensures _ c.in-Some.is c.requires.shaped.few (omega arith),
      next_level _ _ _ _ _ _ _ c.next_field.ensures _ c.in-Some.is c.requires.shaped.few (omega arith) _ c.loop-inner.invariant.level_is,
      search (rules, inner_laws),
      search (rules, inner_laws),
    ),
  ),
)

pub decode_inner-loop-inner-smaller-in-Some-decode_param : goal.decode_inner-loop-inner-smaller-in-Some-decode_param
decode_inner-loop-inner-smaller-in-Some-decode_param t c = search (rules, inner_laws)

pub decode_inner-loop-inner-preserved-in-Some-decode_param : goal.decode_inner-loop-inner-preserved-in-Some-decode_param
decode_inner-loop-inner-preserved-in-Some-decode_param t c =
    inner_takes _ _ _ _ _ _ _ _ _ _ _ _ _ _ _ _ _ c.loop-inner.invariant _ c.next_field.ensures _ c.in-Some.is _ _ c.decode_param.ensures _ _
    c.in-Some-decode_param.is (search rules) (search rules) (search rules) (search rules)

pub decode_inner-loop-inner-smaller : goal.decode_inner-loop-inner-smaller
decode_inner-loop-inner-smaller t c = search (rules, inner_laws)

pub decode_inner-loop-inner-preserved : goal.decode_inner-loop-inner-preserved
decode_inner-loop-inner-preserved t c =
    inner_skips _ _ _ _ _ _ _ _ _ _ _ _ _ _ _ _ _ c.loop-inner.invariant _ c.next_field.ensures _ c.in-Some.is _ _ c.decode_param.ensures
    c.in_default-decode_param.is (search rules) (search rules) (search rules) (search rules)

pub decode_param-lay_row-requires-clause-place_lt_count : goal.decode_param-lay_row-requires-clause-place_lt_count
decode_param-lay_row-requires-clause-place_lt_count t c = search (rules, field_laws)

pub decode_param-returns-in_err-bits : goal.decode_param-returns-in_err-bits
unfolding field_read
decode_param-returns-in_err-bits t c = search (rules, field-missing)

pub decode_param-returns-then-spot-eq0 : goal.decode_param-returns-then-spot-eq0
decode_param-returns-then-spot-eq0 t c =
    field_leaf _ _ _ _ _ _ _ _ _ _ c.lay_row.ensures _ c.in_ok-bits.was c.if-spot-eq0.true

pub decode_param-decode_inner-after-requires : goal.decode_param-decode_inner-after-requires
decode_param-decode_inner-after-requires t c = (
  search (rules, field_laws),
  (
    search (rules, field_laws),
    (
      c.requires.place_lt_count.0,
      omega arith,
      search (rules, field_laws),
      search (rules, field_laws),
      omega arith,
    ),
  ),
)

pub decode_param-returns : goal.decode_param-returns
decode_param-returns t c =
    field_tree _ _ _ _ _ _ _ _ _ _ c.lay_row.ensures _ c.in_ok-bits.was _ _ c.decode_inner-after.ensures c.if-spot-eq0.false
