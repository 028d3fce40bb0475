-- X13 (docs/RULES.md): how the value of an attribute is written.
use Rattle.std.specs.Prelude.{ℕ, cond, List, [], ◌∷◌, ◌++◌, eqb}
use Rattle.text.specs.Text.{value}
use Rattle.numerals.specs.Numerals.{capital, spelled}

-- X13: a byte of a value: `&amp;`, `&lt;`, `&gt;`, `&quot;` and `&apos;` for the five that have names, any other as it is
abbrev pub escape_of : ℕ → List ℕ
escape_of x =
    cond (eqb x 0x26) (0x26 ∷ 0x61 ∷ 0x6d ∷ 0x70 ∷ 0x3b ∷ [])
    (cond (eqb x 0x3c) (0x26 ∷ 0x6c ∷ 0x74 ∷ 0x3b ∷ [])
    (cond (eqb x 0x3e) (0x26 ∷ 0x67 ∷ 0x74 ∷ 0x3b ∷ [])
    (cond (eqb x 0x22) (0x26 ∷ 0x71 ∷ 0x75 ∷ 0x6f ∷ 0x74 ∷ 0x3b ∷ [])
    (cond (eqb x 0x27) (0x26 ∷ 0x61 ∷ 0x70 ∷ 0x6f ∷ 0x73 ∷ 0x3b ∷ []) (x ∷ [])))))

-- X13: words, and numbers in decimal
unfoldable pub escaped : List ℕ → List ℕ
escaped [] = []
escaped (x ∷ xs) = escape_of x ++ escaped xs

-- X13: the number of a field in hexadecimal: 0x, and capital digits with no more zeros than one
abbrev pub hexed : List ℕ → List ℕ
hexed f = 0x30 ∷ 0x78 ∷ spelled 16 capital 20 1 (value 65535 f)

-- X13: a flag, by its digit: `true` or `false`
abbrev pub flagged : ℕ → List ℕ
flagged x = cond (eqb x 0x31) (0x74 ∷ 0x72 ∷ 0x75 ∷ 0x65 ∷ []) (0x66 ∷ 0x61 ∷ 0x6c ∷ 0x73 ∷ 0x65 ∷ [])
