-- The answers of the calls on a listing as C has them.
use Rattle.std.specs.Prelude.{◌≡◌, List, ℕ, Result}
use Rattle.refusal.specs.Refusal.{number_of, carried_by}
use Rattle.listing.specs.declared.Judgement.{Judgement}
use Rattle.listing.specs.declared.Judgement.TheVariants as judgement
use Rattle.listing.specs.Judge.{Judges}
use Rattle.listing.specs.Write.{Writes}
use Rattle.libtap.specs.declared.TapAnswer.{TapAnswer}
use Rattle.libtap.specs.Values.{told_written}
use Rattle.refusal.specs.declared.Refusal.{Refusal}

-- 0 for yes, the line that differs, or the refusal's number and what it carries
abbrev pub told_judgement : Judgement → TapAnswer
told_judgement judgement.Yes = record { refusal = 0; value = 0 }
told_judgement (judgement.Differs line) = record { refusal = 0; value = line }
told_judgement (judgement.Refused x) = record { refusal = number_of x; value = carried_by x }

-- what `tap_judge_listing` answers: what `judge_listing` does, told so
pub record ToldJudgement (text mpdu : List ℕ) (region speed : ℕ) (listing : List ℕ) (r : TapAnswer) : Type 0 where
  pub answer : Judgement
  pub judges : Judges text mpdu region speed listing answer
  pub told_so : r ≡ told_judgement answer

-- what `tap_write_listing` answers and leaves: what `write_listing` does, told so
pub record ToldWritten (text mpdu : List ℕ) (region speed : ℕ) (buffer : List ℕ) (r : TapAnswer) (buffer' : List ℕ) : Type 0 where
  pub answer : Result ℕ Refusal
  pub writes : Writes text mpdu region speed buffer answer buffer'
  pub told_so : r ≡ told_written answer
