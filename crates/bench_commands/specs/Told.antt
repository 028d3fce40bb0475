-- The answers of the calls as the benchmark has them.
use Rattle.std.specs.Prelude.{cond, ℕ, ◌+◌, eqb}
use Rattle.command.specs.Answer.{Told}

-- an answer's rows, or a million and the refusal's number
unfoldable pub in_one : Told → ℕ
in_one a = cond (eqb a.refusal 0) a.rows (1000000 + a.refusal)
