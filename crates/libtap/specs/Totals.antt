-- The answers of the calls on totals as C has them.
use Rattle.std.specs.Prelude.{◌≡◌, List, ℕ, Result}
use Rattle.frame.specs.declared.Reading.{Reading}
use Rattle.buffer.specs.Buffer.{Writes}
use Rattle.totals.specs.Totals.{said, Adds}
use Rattle.totals_text.specs.Text.{text_of}
use Rattle.libtap.specs.declared.TapAnswer.{TapAnswer}
use Rattle.libtap.specs.Answers.{answered}
use Rattle.libtap.specs.Values.{told_written}
use Rattle.refusal.specs.declared.Refusal.{Refusal}

-- the answer in numbers, as TO5 (docs/RULES.md) has it
abbrev pub told_added : Result (Unit {0}) Refusal → TapAnswer
told_added a = answered (said a)

-- what `tap_add_payload` answers and leaves: what `add_payload` does, told so
pub record ToldAdded (firmware : ℕ) (reading : Reading) (text : List ℕ) (region : ℕ) (payload totals : List ℕ) (r : TapAnswer)
    (totals' : List ℕ) : Type 0 where
  pub answer : Result (Unit {0}) Refusal
  pub adds : Adds firmware reading text region payload totals answer totals'
  pub told_so : r ≡ told_added answer

-- what `tap_print_totals` answers and leaves: what `print_totals` does, told so
pub record ToldTotals (totals buffer : List ℕ) (r : TapAnswer) (buffer' : List ℕ) : Type 0 where
  pub answer : Result ℕ Refusal
  pub writes : Writes (text_of totals) buffer answer buffer'
  pub told_so : r ≡ told_written answer
