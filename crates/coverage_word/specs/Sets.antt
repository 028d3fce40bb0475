-- CV2 (docs/RULES.md): the sets of the P lines of a frame text.
use Rattle.std.specs.Prelude.{ℕ, ◌+◌, cond, List, [], ◌∷◌, take}
use Rattle.text.specs.Text.{fields, field, same}
use Rattle.readers.specs.Lines.{lines_in, of_kind}

-- the number of the first of these D lines that has a name, where n come before them, or 16
abbrev pub number_from : ℕ → List ℕ → List (List ℕ) → ℕ
number_from n name [] = 16
number_from n name (l ∷ ls) = cond (same (field 1 (fields l)) name) n (number_from (n + 1) name ls)

-- the same of the D lines of a text, of which there are 16 at most (T33)
abbrev pub set_of : List ℕ → List ℕ → ℕ
set_of t name = number_from 0 name (take 16 (of_kind 0x44 (lines_in t)))

-- CV2: the D lines of the sets of these P lines
abbrev pub sets_of : List ℕ → List (List ℕ) → List ℕ
sets_of t [] = []
sets_of t (l ∷ ls) = set_of t (field 6 (fields l)) ∷ sets_of t ls
