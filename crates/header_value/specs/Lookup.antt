-- What a row's value is asked for.
use Rattle.std.specs.Prelude.{ℕ, ◌+◌, ◌*◌, ◌≤◌, length, List}
use Rattle.refusal.specs.Refusal.{most_frame}
use Rattle.header_rules.specs.Table.{row_width}

-- there is a row k, and the MPDU d is within its limit
pub record Stands (d rows : List ℕ) (k : ℕ) : Type 0 where
  pub short : length d ≤ most_frame
  pub row : k * row_width + row_width ≤ length rows
