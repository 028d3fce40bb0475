-- Values as people read them. Texts stand in the comments.
use Rattle.std.specs.Prelude.{◌≡◌, refl, true, false, [], ◌∷◌, Some, None}
use Rattle.frame_text.specs.declared.ParamType.TheVariants.{Hex, Number, NumberSigned, Boolean, Bitmask}
use Rattle.numerals.specs.Numerals.{spelled}
use Rattle.utf8.specs.Table.{cut}
use Rattle.lossy.specs.Lossy.{shown}
use Rattle.display.specs.Display.{display_value, display, display_bit}

-- a symbol's name comes first: `Ack` for 3 of a HEX
symbol_first : display_value (0x41 ∷ 0x63 ∷ 0x6b ∷ []) Hex (Some 3) [] ≡ 0x41 ∷ 0x63 ∷ 0x6b ∷ []
unfolding display_value
symbol_first = refl

-- `true`, for 2 of a BOOLEAN
true_word : display_value [] Boolean (Some 2) [] ≡ 0x74 ∷ 0x72 ∷ 0x75 ∷ 0x65 ∷ []
unfolding display_value
true_word = refl

-- of 0x0180 the low byte is signed: `-128`
low_byte : display_value [] NumberSigned (Some 0x0180) [] ≡ 0x2d ∷ 0x31 ∷ 0x32 ∷ 0x38 ∷ []
unfolding display_value spelled
low_byte = refl

-- `0x07`
two_digits : display_value [] Bitmask (Some 7) [] ≡ 0x30 ∷ 0x78 ∷ 0x30 ∷ 0x37 ∷ []
unfolding display_value spelled
two_digits = refl

-- nine bytes have no value: `0001020304050607AB` for a HEX, nothing for a NUMBER
nine-bytes : display_value [] Hex None (0 ∷ 1 ∷ 2 ∷ 3 ∷ 4 ∷ 5 ∷ 6 ∷ 7 ∷ 0xAB ∷ [])
    ≡ 0x30 ∷ 0x30 ∷ 0x30 ∷ 0x31 ∷ 0x30 ∷ 0x32 ∷ 0x30 ∷ 0x33 ∷ 0x30 ∷ 0x34 ∷ 0x30 ∷ 0x35 ∷ 0x30 ∷ 0x36 ∷ 0x30 ∷ 0x37 ∷ 0x41
    ∷ 0x42 ∷ []
unfolding display_value
nine-bytes = refl

no_number : display_value [] Number None (0 ∷ 1 ∷ 2 ∷ 3 ∷ 4 ∷ 5 ∷ 6 ∷ 7 ∷ 0xAB ∷ []) ≡ []
unfolding display_value
no_number = refl

-- ascii comes before a const's name: `Hi` for 48 69 00
ascii_first : display true (0x4f ∷ 0x6e ∷ []) (0x48 ∷ 0x69 ∷ 0 ∷ []) ≡ 0x48 ∷ 0x69 ∷ []
unfolding display shown cut
ascii_first = refl

-- `On`
const_name_lem : display false (0x4f ∷ 0x6e ∷ []) (255 ∷ []) ≡ 0x4f ∷ 0x6e ∷ []
unfolding display
const_name_lem = refl

-- `0x00000001` for four bytes, `0000000001` for five
four_bytes : display false [] (0 ∷ 0 ∷ 0 ∷ 1 ∷ []) ≡ 0x30 ∷ 0x78 ∷ 0x30 ∷ 0x30 ∷ 0x30 ∷ 0x30 ∷ 0x30 ∷ 0x30 ∷ 0x30 ∷ 0x31 ∷ []
unfolding display
four_bytes = refl

five_bytes : display false [] (0 ∷ 0 ∷ 0 ∷ 0 ∷ 1 ∷ [])
    ≡ 0x30 ∷ 0x30 ∷ 0x30 ∷ 0x30 ∷ 0x30 ∷ 0x30 ∷ 0x30 ∷ 0x30 ∷ 0x30 ∷ 0x31 ∷ []
unfolding display
five_bytes = refl

-- a T and an S of value 1: `true`, `1`
flag : display_bit true 1 ≡ 0x74 ∷ 0x72 ∷ 0x75 ∷ 0x65 ∷ []
unfolding display_bit
flag = refl

field : display_bit false 1 ≡ 0x31 ∷ []
unfolding display_bit spelled
field = refl
