-- VT5, VT6 (docs/RULES.md): which bytes are well-formed UTF-8 (the Unicode Standard, Table 3-7), and where ill-formed bytes are parted.
use Rattle.std.specs.Prelude.{ℕ, suc, max, ◌≡◌, Bool, true, false, cond, ◌&&◌, ◌||◌, List, [], ◌∷◌, ◌++◌, length, leb, eqb}
use Rattle.utf8.specs.declared.Piece.{Piece}

-- VT5: a row of the table: for each byte of a sequence the least and the greatest that may stand there
abbrev pub Row : Type 0
Row = List (ℕ × ℕ)

abbrev pub table : List Row
table =
    ((0x00, 0x7F) ∷ [])
    ∷ ((0xC2, 0xDF) ∷ (0x80, 0xBF) ∷ [])
    ∷ ((0xE0, 0xE0) ∷ (0xA0, 0xBF) ∷ (0x80, 0xBF) ∷ [])
    ∷ ((0xE1, 0xEC) ∷ (0x80, 0xBF) ∷ (0x80, 0xBF) ∷ [])
    ∷ ((0xED, 0xED) ∷ (0x80, 0x9F) ∷ (0x80, 0xBF) ∷ [])
    ∷ ((0xEE, 0xEF) ∷ (0x80, 0xBF) ∷ (0x80, 0xBF) ∷ [])
    ∷ ((0xF0, 0xF0) ∷ (0x90, 0xBF) ∷ (0x80, 0xBF) ∷ (0x80, 0xBF) ∷ [])
    ∷ ((0xF1, 0xF3) ∷ (0x80, 0xBF) ∷ (0x80, 0xBF) ∷ (0x80, 0xBF) ∷ [])
    ∷ ((0xF4, 0xF4) ∷ (0x80, 0x8F) ∷ (0x80, 0xBF) ∷ (0x80, 0xBF) ∷ [])
    ∷ []

abbrev pub within : ℕ × ℕ → ℕ → Bool
within r x = leb x r.1 && leb r.0 x

-- VT5: a well-formed sequence: the bytes that a row says, neither more nor fewer
abbrev pub fits : Row → List ℕ → Bool
fits [] [] = true
fits [] (x ∷ xs) = false
fits (r ∷ rs) [] = false
fits (r ∷ rs) (x ∷ xs) = within r x && fits rs xs

abbrev pub fits_one : List Row → List ℕ → Bool
fits_one [] l = false
fits_one (r ∷ rs) l = fits r l || fits_one rs l

unfoldable pub well_formed : List ℕ → Bool
well_formed l = fits_one table l

-- VT5: well-formed text: well-formed sequences, one after the other
pub data Text : List ℕ → Type 0 where
  empty : Text []
  more : (p l : List ℕ) → well_formed p ≡ true → Text l → Text (p ++ l)

-- ---- the first piece of bytes
-- how many bytes, from the first on, are as the row says
abbrev pub agree : Row → List ℕ → ℕ
agree [] l = 0
agree (r ∷ rs) [] = 0
agree (r ∷ rs) (x ∷ xs) = cond (within r x) (suc (agree rs xs)) 0

-- the longest front that is a front of some well-formed sequence
abbrev pub longest : List Row → List ℕ → ℕ
longest [] l = 0
longest (r ∷ rs) l = max (agree r l) (longest rs l)

-- does a front fit a row whole
abbrev pub begins : List Row → List ℕ → Bool
begins [] l = false
begins (r ∷ rs) l = eqb (agree r l) (length r) || begins rs l

-- VT6: a well-formed sequence, or a maximal subpart of an ill-formed one: the longest front of a well-formed sequence, or one byte
unfoldable pub cut : List ℕ → Piece
cut l = record { size = max 1 (longest table l); well = begins table l }
