-- VT6, VT7 (docs/RULES.md): bytes shown as UTF-8: what is well-formed as it is, U+FFFD for each maximal subpart of what is not, and no zero byte at the end.
use Rattle.std.specs.Prelude.{ℕ, zero, suc, ◌-◌, cond, List, [], ◌∷◌, ◌++◌, take, eqb}
use Rattle.utf8.specs.Table.{cut}

-- VT6: U+FFFD in UTF-8
abbrev pub mark : List ℕ
mark = 0xEF ∷ 0xBF ∷ 0xBD ∷ []

-- VT6: what stands for the first piece
abbrev pub first : List ℕ → List ℕ
first l = cond (cut l).well (take (cut l).size l) mark

-- what stands for the pieces behind the first k bytes: the k are those of a piece that was answered
abbrev pub passing : List ℕ → ℕ → List ℕ
passing [] k = []
passing (x ∷ xs) (suc k) = passing xs k
passing (x ∷ xs) zero = first (x ∷ xs) ++ passing xs ((cut (x ∷ xs)).size - 1)

-- VT6: what stands for all of them
abbrev pub replaced : List ℕ → List ℕ
replaced l = passing l 0

-- VT7: no zero byte at the end
abbrev pub kept : ℕ → List ℕ → List ℕ
kept x [] = cond (eqb x 0) [] (x ∷ [])
kept x (y ∷ ys) = x ∷ y ∷ ys

abbrev pub trim : List ℕ → List ℕ
trim [] = []
trim (x ∷ xs) = kept x (trim xs)

-- VT7: bytes as they are shown
unfoldable pub shown : List ℕ → List ℕ
shown l = trim (replaced l)
