-- OV6 (docs/RULES.md): what is answered by a text and by a rearrangement of it, the same but for numbers.
use Rattle.std.specs.Prelude.{ℕ, ◌≡◌, List, map, Result, Ok, Err}
use Rattle.rows.specs.Rows.{laid}
use Rattle.reorder.specs.Reorder.{renumbered, with_number}
use Rattle.header.specs.declared.DecodedHeader.{DecodedHeader}
use Rattle.refusal.specs.declared.Refusal.{Refusal}

-- an answer with another H number, whose name stands in t'; a refusal stays as it is
abbrev pub with_numbers : (ℕ → ℕ) → List ℕ → Result DecodedHeader Refusal → Result DecodedHeader Refusal
with_numbers h t' (Ok x) = Ok (with_number h t' x)
with_numbers h t' (Err y) = Err y

-- the table after an answer with these rows, or after a refusal
abbrev pub table_of : List ℕ → List (List ℕ) → Result DecodedHeader Refusal → List ℕ
table_of table rows (Ok x) = laid table rows
table_of table rows (Err y) = table

-- r and table₁ are what a call answers and leaves by t, r' and table₂ what it answers and leaves by t': the same but for the numbers of H and P lines
pub record SameBut (t' table : List ℕ) (h g : ℕ → ℕ) (r : Result DecodedHeader Refusal) (table₁ : List ℕ) (r' : Result DecodedHeader Refusal) (table₂ : List ℕ) : Type 0 where
  pub answer : r' ≡ with_numbers h t' r
  pub rows : List (List ℕ)
  pub before : table₁ ≡ table_of table rows r
  pub after : table₂ ≡ table_of table (map (renumbered g) rows) r'
