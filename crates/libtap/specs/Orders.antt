-- The answers of the calls on the order of headers as C has them.
use Rattle.std.specs.Prelude.{◌≡◌, List, ℕ, Result, Ok, Err, Bool, true, false}
use Rattle.refusal.specs.Refusal.{number_of, carried_by}
use Rattle.overlaps.specs.Calls.{TellsHarmless}
use Rattle.sorting.specs.Sorting.{Sorts}
use Rattle.libtap.specs.declared.TapAnswer.{TapAnswer}
use Rattle.libtap.specs.Values.{told_written}
use Rattle.refusal.specs.declared.Refusal.{Refusal}

-- 1 or 0, or the refusal's number and what it carries
abbrev pub told_harmless : Result Bool Refusal → TapAnswer
told_harmless (Ok true) = record { refusal = 0; value = 1 }
told_harmless (Ok false) = record { refusal = 0; value = 0 }
told_harmless (Err x) = record { refusal = number_of x; value = carried_by x }

-- what `tap_is_harmless` answers: what `is_harmless` does, told so
pub record ToldHarmless (text : List ℕ) (r : TapAnswer) : Type 0 where
  pub answer : Result Bool Refusal
  pub tells : TellsHarmless text answer
  pub told_so : r ≡ told_harmless answer

-- what `tap_sort_headers` answers and leaves: what `sort_headers` does, told so
pub record ToldSorted (text buffer : List ℕ) (r : TapAnswer) (buffer' : List ℕ) : Type 0 where
  pub answer : Result ℕ Refusal
  pub sorts : Sorts text buffer answer buffer'
  pub told_so : r ≡ told_written answer
