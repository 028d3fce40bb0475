use Rattle.std.proofs.Common.{◌≡◌, ℕ, Result, Err, arith}
use Rattle.refusal.specs.declared.Refusal.{Refusal}
use Rattle.header_value.proofs.Laws.{told-not}
use Rattle.header_value.proofs.header_value.Goals as goal

pub returns-in_err-check_frame_text : goal.returns-in_err-check_frame_text
returns-in_err-check_frame_text c =
    let is : ◌≡◌ {A = Result ℕ Refusal} c.from_residual.result (Err c.in_err-check_frame_text.field-0.0) = grind arith in
    rw is (told-not _ _ _ _ _ _ _ _ c.check_frame_text.ensures.is c.in_err-check_frame_text.was)
