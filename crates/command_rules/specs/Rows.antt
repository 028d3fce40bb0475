-- C16 and L3 (docs/RULES.md): the rows of a command's table.
use Rattle.std.specs.Prelude.{List, ◌∷◌, [], ◌++◌, map, ℕ, zero, suc, drop, get_or}
use Rattle.rows.specs.Rows.{laid}
use Rattle.command_rules.specs.declared.Row.{Row}

-- the numbers of a row
abbrev pub row_width : ℕ
row_width = 10

-- C16: the kind of a row: a parameter's, a bit child's, a repetition's
abbrev pub param_kind : ℕ
param_kind = 0

abbrev pub bit_kind : ℕ
bit_kind = 1

abbrev pub repetition_kind : ℕ
repetition_kind = 2

-- C16: the nine numbers that zniff-rs gives, in their order
abbrev pub nine : Row → List ℕ
nine r = r.kind ∷ r.line ∷ r.parent ∷ r.start ∷ r.end ∷ r.valued ∷ r.value ∷ r.named ∷ r.number ∷ []

-- C16, L3: and the tenth behind them
abbrev pub numbers : Row → List ℕ
numbers r = nine r ++ (r.lacking ∷ [])

-- R12: the table whose first rows are these, and behind them what stood there
unfoldable pub table : List ℕ → List Row → List ℕ
table t rs = laid t (map numbers rs)

-- ---- what a caller sees

-- C16: the row whose numbers stand first in a table
abbrev pub first_row : List ℕ → Row
first_row t =
    record {
      kind = get_or t 0 0;
      line = get_or t 1 0;
      parent = get_or t 2 0;
      start = get_or t 3 0;
      end = get_or t 4 0;
      valued = get_or t 5 0;
      value = get_or t 6 0;
      named = get_or t 7 0;
      number = get_or t 8 0;
      lacking = get_or t 9 0;
    }

-- C17: the rows that stand in a table, the first so many
unfoldable pub rows_in : ℕ → List ℕ → List Row
rows_in zero t = []
rows_in (suc n) t = first_row t ∷ rows_in n (drop row_width t)
