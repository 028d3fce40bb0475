-- Rows written into a part of the lent table, those for which there is room. The table may begin behind the part's first rows: s rows are passed over then,
-- counted and not written.
use Rattle.std.specs.Prelude.{◌≡◌, Bool, ◌||◌, List, map, ℕ, ◌+◌, ◌-◌, ◌*◌, leb, ltb, length, get_or, drop}
use Rattle.rows.specs.Parts.{puts, cut_at}
use Rattle.command_rules.specs.Rows.{row_width, numbers}
use Rattle.command_rules.specs.declared.Row.{Row}

-- the table with rows written from row k of the part on, those behind the first s for which there is room
unfoldable pub written : ℕ → List ℕ → ℕ → List Row → List ℕ
written s t k rs = puts row_width t (k - s) (map numbers (drop (s - k) rs))

-- where row k of the part begins in a table of n numbers, or the table's end if that comes first
unfoldable pub row_at : ℕ → ℕ → ℕ → ℕ
row_at s k n = cut_at row_width (k - s) n

-- is none of the first c rows of the part written into a table of n numbers
abbrev pub left_out : ℕ → ℕ → ℕ → Bool
left_out s c n = ltb n row_width || leb c s

-- c rows are written from row k on, those behind the first s for which there is room
pub record Writes (s : ℕ) (t : List ℕ) (k : ℕ) (rs : List Row) (t' : List ℕ) (c : ℕ) : Type 0 where
  pub rows : t' ≡ written s t k rs
  pub count : c ≡ length rs

-- ---- what stands in a table

-- the row whose numbers stand as row k of a table
abbrev pub row_in : List ℕ → ℕ → Row
row_in t k =
    record {
      kind = get_or t (k * row_width + 0) 0;
      line = get_or t (k * row_width + 1) 0;
      parent = get_or t (k * row_width + 2) 0;
      start = get_or t (k * row_width + 3) 0;
      end = get_or t (k * row_width + 4) 0;
      valued = get_or t (k * row_width + 5) 0;
      value = get_or t (k * row_width + 6) 0;
      named = get_or t (k * row_width + 7) 0;
      number = get_or t (k * row_width + 8) 0;
      lacking = get_or t (k * row_width + 9) 0;
    }
