-- Laws of the answers on values as C has them. Assumes nothing.
use mathlib.Core.Path.{◌≡◌}
use mathlib.Core.Bool.{Bool}
use mathlib.Core.List.{List}
use Prim.Native.Nat.{ℕ}
use Rattle.refusal.specs.declared.Refusal.{Refusal}
use Rattle.refusal.specs.Refusal.{number_of, carried_by}
use Rattle.header_value.specs.Answer.{HeaderValue}
use Rattle.command_rules.specs.declared.Offsets.{Offsets}
use Rattle.command.specs.Answer.{offsets_by}
use Rattle.command_value.specs.Answer.{CommandValue}
use Rattle.libtap.specs.declared.TapAnswer.{TapAnswer}
use Rattle.libtap.specs.Answers.{answered}
use Rattle.libtap.specs.Values.{told_written, ToldHeaderValue, ToldCommandValue}
use Rattle.std.specs.Prelude.{Result, Ok, Err}

pub tells-text : (x : Result ℕ Refusal) (n : ℕ) (r : TapAnswer) → x ≡ Ok n → r ≡ answered (0, n) → r ≡ told_written x
tells-text x n r e is = rw e is

pub tells_unwritten : (x : Result ℕ Refusal) (y : Refusal) (r : TapAnswer) → x ≡ Err y → r ≡ answered (number_of y, carried_by y) → r ≡ told_written x
tells_unwritten x y r e is = rw e is

pub tells-header-value : (text mpdu : List ℕ) (region speed row : ℕ) (b : List ℕ) (x : Result ℕ Refusal) (r : TapAnswer) (b' : List ℕ)
    → HeaderValue text mpdu region speed row b x b' → r ≡ told_written x → ToldHeaderValue text mpdu region speed row b r b'
tells-header-value text mpdu region speed row b x r b' so is-r = record { answer = x; shows = so; told_so = is-r }

pub tells_command_value : (position : Bool) (offsets : Offsets) (text payload : List ℕ) (row : ℕ) (b : List ℕ) (x : Result ℕ Refusal) (r : TapAnswer)
    (b' : List ℕ)
    → CommandValue offsets text payload row b x b' → offsets ≡ offsets_by position → r ≡ told_written x
    → ToldCommandValue (offsets_by position) text payload row b r b'
tells_command_value position offsets text payload row b x r b' so e is-r = record { answer = x; shows = rw e at so; told_so = is-r }

pub ruleset value_laws = (tells-text, tells_unwritten, tells-header-value, tells_command_value)
