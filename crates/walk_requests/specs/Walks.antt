-- The requests for the two walks.
use Rattle.std.specs.Prelude.{ℕ, ◌≤◌, List, length, Option, Some, None}
use Rattle.walk_requests.specs.declared.Request.{Request}

-- no more than 16,384 rows of ten numbers; the other words start inside
abbrev pub Tables : List ℕ → Option (ℕ × ℕ) → Type 0
Tables words (Some (numbers, at)) = (numbers ≤ 163840) × (at ≤ length words)
Tables words None = Unit

-- such a table, and bytes that the buffer holds
pub record Inside (held : List ℕ) (numbers n end : ℕ) : Type 0 where
  pub few : numbers ≤ 163840
  pub ordered : n ≤ end
  pub within : end ≤ length held

abbrev pub Asks : List ℕ → Option Request → Type 0
Asks held (Some q) = Inside held q.numbers q.n q.end
Asks held None = Unit
