use Rattle.std.proofs.Common.{rules, ◌≡◌, ℕ, Result, Err, arith}
use Rattle.refusal.specs.declared.Refusal.{Refusal}
use Rattle.header_value.proofs.Laws.{told-refused, told-past, told-row, row-stands}
use Rattle.header_value.proofs.value_accepted.Goals as goal

pub returns-in_err-header : goal.returns-in_err-header
returns-in_err-header c =
    let is : ◌≡◌ {A = Result ℕ Refusal} c.from_residual.result (Err c.in_err-header.field-0.0) = grind arith in
    rw is (told-refused _ _ _ _ _ _ _ c.decode_row.ensures _ _ c.in_err-header.was)

pub returns-then-header-row : goal.returns-then-header-row
returns-then-header-row c = told-past _ _ _ _ _ _ _ c.decode_row.ensures _ _ c.in_ok-header.was c.if-header-row.true

pub row_value-requires : goal.row_value-requires
row_value-requires c = (
  c.requires,
  (row-stands _ _ _ _ _ _ _ c.decode_row.ensures _ c.in_ok-header.was c.if-header-row.false (search rules)),
)

pub returns : goal.returns
returns c = told-row _ _ _ _ _ _ _ c.decode_row.ensures _ _ c.in_ok-header.was _ _ c.row_value.ensures c.if-header-row.false
