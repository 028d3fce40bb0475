-- The answers of the calls on values as C has them.
use Rattle.std.specs.Prelude.{◌≡◌, List, ℕ, Result, Ok, Err}
use Rattle.refusal.specs.Refusal.{number_of, carried_by}
use Rattle.header_value.specs.Answer.{HeaderValue}
use Rattle.command_rules.specs.declared.Offsets.{Offsets}
use Rattle.command_value.specs.Answer.{CommandValue}
use Rattle.libtap.specs.declared.TapAnswer.{TapAnswer}
use Rattle.refusal.specs.declared.Refusal.{Refusal}

-- the length of a text, or the refusal's number and what it carries
abbrev pub told_written : Result ℕ Refusal → TapAnswer
told_written (Ok n) = record { refusal = 0; value = n }
told_written (Err x) = record { refusal = number_of x; value = carried_by x }

-- what `tap_header_value` answers and leaves: what `header_value` does, told so
pub record ToldHeaderValue (text mpdu : List ℕ) (region speed row : ℕ) (buffer : List ℕ) (r : TapAnswer) (buffer' : List ℕ) : Type 0 where
  pub answer : Result ℕ Refusal
  pub shows : HeaderValue text mpdu region speed row buffer answer buffer'
  pub told_so : r ≡ told_written answer

-- what `tap_command_value` answers and leaves: what `command_value` does, told so
pub record ToldCommandValue (offsets : Offsets) (text payload : List ℕ) (row : ℕ) (buffer : List ℕ) (r : TapAnswer) (buffer' : List ℕ) : Type 0 where
  pub answer : Result ℕ Refusal
  pub shows : CommandValue offsets text payload row buffer answer buffer'
  pub told_so : r ≡ told_written answer
