-- VT8, VT11 (docs/RULES.md): what showing a row of a command answers and leaves.
use Rattle.std.specs.Prelude.{ℕ, ◌≡◌, List, length, Result, Ok, Err}
use Rattle.buffer.specs.Buffer.{answer_in, buffer_after}
use Rattle.command_rules.specs.declared.Offsets.{Offsets}
use Rattle.command_row.specs.Answer.{row_of}
use Rattle.command_value.specs.Params.{row_text}
use Rattle.command_rules.specs.declared.Row.{Row}
use Rattle.refusal.specs.declared.Refusal.{Refusal}

-- VT11: the refusals of `command_row` come first, then 12
abbrev pub of_found : List ℕ → List ℕ → ℕ → Result Row Refusal → Result ℕ Refusal
of_found t p room (Ok r) = answer_in (length (row_text t p r)) room
of_found t p room (Err x) = Err x

-- VT8: what is left in the buffer b
abbrev pub left_by : List ℕ → List ℕ → List ℕ → Result ℕ Refusal → Result Row Refusal → List ℕ
left_by t p b w (Ok r) = buffer_after (row_text t p r) b w
left_by t p b w (Err x) = b

-- VT11: what `command_value` answers, and leaves in the buffer b
pub record CommandValue (offsets : Offsets) (t p : List ℕ) (k : ℕ) (b : List ℕ) (w : Result ℕ Refusal) (b' : List ℕ) : Type 0 where
  pub answer : w ≡ of_found t p (length b) (row_of offsets t p k)
  pub leaves : b' ≡ left_by t p b w (row_of offsets t p k)
