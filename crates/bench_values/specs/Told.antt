-- The answers of the calls as the benchmark has them.
use Rattle.std.specs.Prelude.{List, ℕ, ◌+◌, Result, Ok, Err}
use Rattle.refusal.specs.Refusal.{number_of}
use Rattle.header_nodes.specs.Answer.{answer_of, rows_of}
use Rattle.header_value.specs.Fields.{row_text}
use Rattle.header_value.specs.Answer.{of_decoded}
use Rattle.command_rules.specs.declared.Offsets.{Offsets}
use Rattle.command_row.specs.Answer.{row_of}
use Rattle.command_value.specs.Answer.{of_found}
use Rattle.refusal.specs.declared.Refusal.{Refusal}

-- a text's length, or 100,000 and the refusal's number
abbrev pub told : Result ℕ Refusal → ℕ
told (Ok n) = n
told (Err x) = 100000 + number_of x

-- VT9: what `header_value` answers, for a buffer of `room` bytes
unfoldable pub header_value : List ℕ → List ℕ → ℕ → ℕ → ℕ → ℕ → Result ℕ Refusal
header_value t d region speed k room = of_decoded (row_text t d (rows_of t d region speed) k) k room (answer_of t d region speed)

-- VT11: what `command_value` answers, for a buffer of `room` bytes
unfoldable pub command_value : Offsets → List ℕ → List ℕ → ℕ → ℕ → Result ℕ Refusal
command_value offsets t p k room = of_found t p room (row_of offsets t p k)
