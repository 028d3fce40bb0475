use Rattle.std.proofs.Common.{◌≡◌, ℕ, Result, Err, arith}
use Rattle.refusal.specs.declared.Refusal.{Refusal}
use Rattle.header_nodes.proofs.Laws.{told-refused, told-past, told-row}
use Rattle.header_nodes.proofs.nodes_accepted.Goals as goal

pub returns-in_err-header : goal.returns-in_err-header
returns-in_err-header c =
    let is : ◌≡◌ {A = Result ℕ Refusal} c.from_residual.result (Err c.in_err-header.field-0.0) = grind arith in
    rw is (told-refused _ _ _ _ _ _ c.decode_accepted.ensures _ _ _ c.in_err-header.was)

pub returns-then-header-row : goal.returns-then-header-row
returns-then-header-row c = told-past _ _ _ _ _ _ c.decode_accepted.ensures _ _ _ c.in_ok-header.was c.if-header-row.true

pub returns : goal.returns
returns c = told-row _ _ _ _ _ _ c.decode_accepted.ensures _ _ _ c.in_ok-header.was _ _ c.nodes_of_row.ensures c.if-header-row.false
