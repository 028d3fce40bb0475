-- The words of a request: decimal numbers, and bytes in hex. A word is a list of bytes.
use Rattle.std.specs.Prelude.{◌≡◌, ℕ, ◌+◌, ◌-◌, ◌*◌, ◌≤◌, Bool, false, cond, ◌&&◌, List, [], ◌∷◌, ◌++◌, length, take, drop, ltb, leb, Option, Some, None}
use Rattle.text.specs.Text.{missing}
use Rattle.text.specs.Scan.{cut}
use Rattle.numerals.specs.Numbers.{value_of}

-- ---- "Numbers are decimal", without leading zeros and at most 2^64 - 1
-- the number that words start with where others follow it, and where these start: words are "parted by one space"
abbrev pub led : Option ℕ → ℕ → Option (ℕ × ℕ)
led (Some n) at = Some (n, at)
led None at = None

abbrev pub leading_of : List ℕ → Option (ℕ × ℕ)
leading_of l = cond (ltb (cut 0x20 l) (length l)) (led (value_of (take (cut 0x20 l) l)) (cut 0x20 l + 1)) None

-- the two numbers that words start with where others follow them, and where these start
abbrev pub paired : ℕ → ℕ → Option (ℕ × ℕ) → Option (ℕ × ℕ × ℕ)
paired first at (Some (second, from)) = Some (first, second, (at + from))
paired first at None = None

abbrev pub further : List ℕ → Option (ℕ × ℕ) → Option (ℕ × ℕ × ℕ)
further l (Some (first, at)) = paired first at (leading_of (drop at l))
further l None = None

abbrev pub two_of : List ℕ → Option (ℕ × ℕ × ℕ)
two_of l = further l (leading_of l)

-- ---- "Bytes are lower-case hex without spaces, `-` for none"
-- what a digit says; 16 for a byte that is none
abbrev pub digit_of : ℕ → ℕ
digit_of x = cond (leb 48 x && leb x 57) (x - 48) (cond (leb 97 x && leb x 102) (x - 87) 16)

pub data Decoded : Type 0 where
  bytes : List ℕ → Decoded
  none : Decoded

-- bytes in front of what is decoded
abbrev pub onto : List ℕ → Decoded → Decoded
onto front (bytes l) = bytes (front ++ l)
onto front none = none

abbrev pub pairs_of : List ℕ → Decoded
pairs_of [] = bytes []
pairs_of (x ∷ []) = none
pairs_of (x ∷ y ∷ l) = cond (ltb (digit_of x) 16 && ltb (digit_of y) 16) (onto ((digit_of x * 16 + digit_of y) ∷ []) (pairs_of l)) none

abbrev pub bytes_of : List ℕ → Decoded
bytes_of [] = none
bytes_of (x ∷ l) = cond (missing (x ∷ l)) (bytes []) (pairs_of (x ∷ l))

-- there are bytes, and so much room is enough for them
abbrev pub fitting : ℕ → Decoded → Bool
fitting room (bytes l) = leb (length l) room
fitting room none = false

-- what is answered of a word's bytes d, once a buffer holds those that are decoded
abbrev pub Decodes : Decoded → List ℕ → Option ℕ → Type 0
Decodes d held (Some n) = (n ≤ length held) × (d ≡ bytes (take n held))
Decodes d held None = fitting (length held) d ≡ false

-- ---- two words of bytes
abbrev pub first_of : List ℕ → Decoded
first_of l = bytes_of (take (cut 0x20 l) l)

abbrev pub second_of : List ℕ → Decoded
second_of l = bytes_of (drop (cut 0x20 l + 1) l)

-- there are bytes of both, and so much room is enough for them
abbrev pub fitting_both : ℕ → Decoded → Decoded → Bool
fitting_both room (bytes l) d = leb (length l) room && fitting (room - length l) d
fitting_both room none d = false

-- the first word's bytes end at n, where the second's start, and these at e
pub record InBoth (a b : Decoded) (held : List ℕ) (n e : ℕ) : Type 0 where
  pub ordered : n ≤ e
  pub inside : e ≤ length held
  pub first : a ≡ bytes (take n held)
  pub second : b ≡ bytes (take (e - n) (drop n held))

-- what is answered of two words' bytes a and b, once a buffer holds those that are decoded
abbrev pub DecodesBoth : Decoded → Decoded → List ℕ → Option (ℕ × ℕ) → Type 0
DecodesBoth a b held (Some (n, e)) = InBoth a b held n e
DecodesBoth a b held None = fitting_both (length held) a b ≡ false
