-- VT3, VT4 (docs/RULES.md): numbers and bytes as text.
use Rattle.std.specs.Prelude.{cond, ◌&&◌, ◌≡◌, List, [], ◌∷◌, ◌++◌, ℕ, zero, suc, ◌+◌, ◌-◌, ◌/◌, ◌%◌, ◌≤◌, eqb, ltb, length, drop}

-- the bytes in which a number is spelled: 20 digits are enough for 64 bits, and before them is room for a mark of two bytes
abbrev pub room : ℕ
room = 22

-- the digit for ten, in capitals
abbrev pub capital : ℕ
capital = 65

-- a digit below 16, where `ten` stands for ten
abbrev pub glyph : ℕ → ℕ → ℕ
glyph ten d = cond (ltb d 10) (48 + d) (ten + (d - 10))

-- VT3: n in a base, with at least so many digits, and at most as many as the third number says: the last digit, behind what is left without it
unfoldable pub spelled : ℕ → ℕ → ℕ → ℕ → ℕ → List ℕ
spelled base ten zero least n = []
spelled base ten (suc most) least n =
    cond (eqb n 0 && eqb least 0) [] (spelled base ten most (least - 1) (n / base) ++ (glyph ten (n % base) ∷ []))

-- VT3: in decimal
abbrev pub decimal : ℕ → List ℕ
decimal n = spelled 10 capital 20 1 n

-- VT3: a byte as a signed number, -128 to 127
abbrev pub signed : ℕ → List ℕ
signed low = cond (ltb low 128) (decimal low) (0x2d ∷ decimal (256 - low))

-- VT4: in hexadecimal: 0x, and two digits at least
abbrev pub hex : ℕ → List ℕ
hex n = 0x30 ∷ 0x78 ∷ spelled 16 capital 20 2 n

-- VT4: the two digits of each byte
abbrev pub pairs : List ℕ → List ℕ
pairs [] = []
pairs (x ∷ xs) = glyph capital (x / 16) ∷ glyph capital (x % 16) ∷ pairs xs

-- a text stands at the end of `out`, from `at` on, and so much is free before it
pub record Spells (free : ℕ) (l : List ℕ) (at : ℕ) (out : List ℕ) : Type 0 where
  pub text : drop at out ≡ l
  pub before : free ≤ at
  pub within : at ≤ length out
  pub all : length out ≡ room
