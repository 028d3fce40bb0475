-- What a walk over loaded fields asks for and answers.
use Rattle.std.specs.Prelude.{◌≡◌, List, ℕ, ◌+◌, ◌*◌, ◌≤◌, length}
use Rattle.refusal.specs.Refusal.{most_frame}
use Rattle.header_rules.specs.Rows.{Row}
use Rattle.header_rules.specs.Flat as flat
use Rattle.header_fields.specs.Fields.{line_width}
use Rattle.header_paths.specs.Scratch.{rows_in}
use Rattle.header_walk.specs.declared.Walked.{Walked}

-- at most 128 lines in the table of fields, and an MPDU within its limit
pub record Shaped (d fields : List ℕ) (count : ℕ) : Type 0 where
  pub short : length d ≤ most_frame
  pub few : count ≤ 128
  pub loaded : count * line_width ≤ length fields

-- the table t holds the rows `after`
abbrev pub Holds : List ℕ → List Row → Type 0
Holds t after = rows_in t (length after) ≡ after

-- a walk from n rows of the table t₀ on, over at most m lines
pub record Walks (d t₀ t : List ℕ) (n m : ℕ) (w : flat.Walked) (r : Walked) : Type 0 where
  pub bit_is : r.bit.0 ≡ w.bit
  pub count : r.rows ≡ length w.rows
  pub rows : Holds t w.rows
  pub kept : rows_in t n ≡ rows_in t₀ n
  pub few : r.rows ≤ n + m
  pub within : r.bit.0 ≤ length d * 8
