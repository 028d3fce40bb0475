-- The line of a command in an index.
use Rattle.std.specs.Prelude.{ℕ, Bool, cond, ◌&&◌, List, [], ◌∷◌}
use Rattle.text.specs.Text.{fields, field, same}
use Rattle.readers.specs.Numeral.{says}

-- has it both numbers, a class and a command
abbrev pub has_numbers : ℕ → ℕ → List ℕ → Bool
has_numbers class command l = says class (field 1 (fields l)) && says command (field 2 (fields l))

-- is it their line
abbrev pub is_of : ℕ → ℕ → List ℕ → Bool
is_of class command l = same (field 0 (fields l)) (0x43 ∷ []) && has_numbers class command l

-- the first of these, or no bytes
abbrev pub first_of : ℕ → ℕ → List (List ℕ) → List ℕ
first_of class command [] = []
first_of class command (l ∷ ls) = cond (is_of class command l) l (first_of class command ls)
