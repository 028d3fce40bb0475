-- Numbers as text, and read.
use Rattle.std.specs.Prelude.{◌≡◌, refl, [], ◌∷◌, Some, None}
use Rattle.numerals.specs.Numbers.{value_of}
use Rattle.numerals.specs.Numerals.{spelled, decimal, signed, hex, pairs}

-- 0
zero_is : decimal 0 ≡ 0x30 ∷ []
unfolding spelled
zero_is = refl

-- 18446744073709551615
most_is : decimal 18446744073709551615
    ≡ 0x31 ∷ 0x38 ∷ 0x34 ∷ 0x34 ∷ 0x36 ∷ 0x37 ∷ 0x34 ∷ 0x34 ∷ 0x30 ∷ 0x37 ∷ 0x33 ∷ 0x37 ∷ 0x30 ∷ 0x39 ∷ 0x35 ∷ 0x35 ∷ 0x31
    ∷ 0x36 ∷ 0x31 ∷ 0x35 ∷ []
unfolding spelled
most_is = refl

-- 127, -128, -1
signed-most : signed 127 ≡ 0x31 ∷ 0x32 ∷ 0x37 ∷ []
unfolding spelled
signed-most = refl

signed-least : signed 128 ≡ 0x2d ∷ 0x31 ∷ 0x32 ∷ 0x38 ∷ []
unfolding spelled
signed-least = refl

signed-last : signed 255 ≡ 0x2d ∷ 0x31 ∷ []
unfolding spelled
signed-last = refl

-- 0x00, 0x0B, 0x1A3
hex-zero : hex 0 ≡ 0x30 ∷ 0x78 ∷ 0x30 ∷ 0x30 ∷ []
unfolding spelled
hex-zero = refl

hex_one_digit : hex 11 ≡ 0x30 ∷ 0x78 ∷ 0x30 ∷ 0x42 ∷ []
unfolding spelled
hex_one_digit = refl

hex_three_digits : hex 0x1A3 ≡ 0x30 ∷ 0x78 ∷ 0x31 ∷ 0x41 ∷ 0x33 ∷ []
unfolding spelled
hex_three_digits = refl

-- 00FF
both_bytes : pairs (0 ∷ 255 ∷ []) ≡ 0x30 ∷ 0x30 ∷ 0x46 ∷ 0x46 ∷ []
both_bytes = refl

-- 0, 12, 01, nothing, -1
read_zero : value_of (48 ∷ []) ≡ Some 0
read_zero = refl

read_twelve : value_of (49 ∷ 50 ∷ []) ≡ Some 12
read_twelve = refl

leading_zero : value_of (48 ∷ 49 ∷ []) ≡ None
leading_zero = refl

no_digit : value_of [] ≡ None
no_digit = refl

read_minus : value_of (45 ∷ 49 ∷ []) ≡ None
read_minus = refl

-- 18446744073709551615 and the next
largest : value_of (49 ∷ 56 ∷ 52 ∷ 52 ∷ 54 ∷ 55 ∷ 52 ∷ 52 ∷ 48 ∷ 55 ∷ 51 ∷ 55 ∷ 48 ∷ 57 ∷ 53 ∷ 53 ∷ 49 ∷ 54 ∷ 49 ∷ 53
    ∷ []) ≡ Some 18446744073709551615
largest = refl

too_large : value_of (49 ∷ 56 ∷ 52 ∷ 52 ∷ 54 ∷ 55 ∷ 52 ∷ 52 ∷ 48 ∷ 55 ∷ 51 ∷ 55 ∷ 48 ∷ 57 ∷ 53 ∷ 53 ∷ 49 ∷ 54 ∷ 49 ∷ 54
    ∷ []) ≡ None
too_large = refl
