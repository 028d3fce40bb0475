-- The answers of the calls as the benchmark has them.
use Rattle.std.specs.Prelude.{ℕ, ◌+◌, Result, Ok, Err}
use Rattle.refusal.specs.Refusal.{number_of}
use Rattle.header.specs.declared.DecodedHeader.{DecodedHeader}
use Rattle.refusal.specs.declared.Refusal.{Refusal}

-- an answer's rows, or 1,000 and the refusal's number
abbrev pub told : Result DecodedHeader Refusal → ℕ
told (Ok h) = h.rows
told (Err x) = 1000 + number_of x
