use Rattle.std.proofs.Common.{◌≡◌, Result, Err, None, Option, ℕ, rules, arith}
use Rattle.text.specs.declared.Place.{Place}
use Rattle.refusal.specs.declared.Refusal.{Refusal}
use Rattle.refusal.specs.declared.Refusal.TheVariants.{NoBase}
use Rattle.header.specs.declared.DecodedHeader.{DecodedHeader}
use Rattle.header.proofs.Laws.{answers_no_base}
use Rattle.header.proofs.decode_by.Goals as goal

pub returns-in_err-place : goal.returns-in_err-place
returns-in_err-place c =
    let none : ◌≡◌ {A = Option (Place × ℕ)} c.find_base.result None = grind arith in
    let is : ◌≡◌ {A = Result DecodedHeader Refusal} c.from_residual.result (Err (NoBase c.base_key-key.result)) = grind arith in
    rw is
    (answers_no_base _ _ _ _ _ _ c.requires (search rules) (search rules) _ c.base_key-key.ensures _ c.find_base.ensures none)
