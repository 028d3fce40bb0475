-- What the table for people says.
use Rattle.std.specs.Prelude.{ℕ, ◌*◌, ◌/◌, cond, List, [], ◌∷◌, ◌==◌, nat_le, nat_lt}
use Rattle.text.specs.Text.{fields, field}
use Rattle.readers.specs.Numeral.{says}

-- n of all in thousandths, less exactly where a thousand times n is no number of the machine's
abbrev pub share_of : ℕ → ℕ → ℕ
share_of n all = cond (all == 0) 0 (cond (nat_le n 18446744073709551) (n * 1000 / all) (cond (nat_lt all 1000) 0 (n / (all / 1000))))

-- the name of the first of these H lines with a key
abbrev pub name_in : ℕ → List (List ℕ) → List ℕ
name_in key [] = []
name_in key (l ∷ ls) = cond (says key (field 1 (fields l))) (field 4 (fields l)) (name_in key ls)
