-- Worked examples of values. Assumes nothing.
use Rattle.std.specs.Prelude.{◌≡◌, refl, true, false, [], ◌∷◌, Some, None}
use Rattle.numerals.specs.Numerals.{spelled}
use Rattle.xml_schema.specs.Schema.{words, optional_words, number, optional_number, hex_number, flag}
use Rattle.xml_values.specs.Values.{valid, says, unsaid, trues, falses, numeral}

-- `a&amp;b&lt;&quot;`
escapes : says words (0x61 ∷ 0x26 ∷ 0x61 ∷ 0x6d ∷ 0x70 ∷ 0x3b ∷ 0x62 ∷ 0x26 ∷ 0x6c ∷ 0x74 ∷ 0x3b ∷ 0x26 ∷ 0x71 ∷ 0x75
    ∷ 0x6f ∷ 0x74 ∷ 0x3b ∷ []) ≡ 0x61 ∷ 0x26 ∷ 0x62 ∷ 0x3c ∷ 0x22 ∷ []
escapes = refl

-- `&nbsp;`
escape-unknown : valid words (0x26 ∷ 0x6e ∷ 0x62 ∷ 0x73 ∷ 0x70 ∷ 0x3b ∷ []) ≡ false
escape-unknown = refl

-- `a&amp`
escape_open : valid words (0x61 ∷ 0x26 ∷ 0x61 ∷ 0x6d ∷ 0x70 ∷ []) ≡ false
escape_open = refl

-- `a>b'`
apart : valid words (0x61 ∷ 0x3e ∷ 0x62 ∷ 0x27 ∷ []) ≡ true
apart = refl

-- a line end in a value
line_end : valid words (0x0a ∷ []) ≡ false
line_end = refl

-- the same where no line has a place for it
line_end_dropped : valid 0x31 (0x0a ∷ []) ≡ true
line_end_dropped = refl

-- `-`
dash : valid optional_words (0x2d ∷ []) ≡ false
dash = refl

-- `-`, where it cannot be missing
dash-said : valid words (0x2d ∷ []) ≡ true
dash-said = refl

-- `+007`
zeros : says number (0x2b ∷ 0x30 ∷ 0x30 ∷ 0x37 ∷ []) ≡ 0x37 ∷ []
zeros = refl

-- `000`
zero : says number (0x30 ∷ 0x30 ∷ 0x30 ∷ []) ≡ 0x30 ∷ []
zero = refl

-- `+`
sign_alone : valid number (0x2b ∷ []) ≡ false
sign_alone = refl

-- `-1`
minus : valid number (0x2d ∷ 0x31 ∷ []) ≡ false
minus = refl

-- `99999`: out of range, for the check of the text to say
great : valid number (0x39 ∷ 0x39 ∷ 0x39 ∷ 0x39 ∷ 0x39 ∷ []) ≡ true
great = refl

-- ` 0X+fF `
hex : numeral (0x20 ∷ 0x30 ∷ 0x58 ∷ 0x2b ∷ 0x66 ∷ 0x46 ∷ 0x20 ∷ []) ≡ Some 255
hex = refl

-- `0x1F`
hex-said : says hex_number (0x30 ∷ 0x78 ∷ 0x31 ∷ 0x46 ∷ []) ≡ 0x33 ∷ 0x31 ∷ []
unfolding spelled
hex-said = refl

-- `+010`
ten : numeral (0x2b ∷ 0x30 ∷ 0x31 ∷ 0x30 ∷ []) ≡ Some 10
ten = refl

-- `0xFFFFFFFF`
hex-most : numeral (0x30 ∷ 0x78 ∷ 0x46 ∷ 0x46 ∷ 0x46 ∷ 0x46 ∷ 0x46 ∷ 0x46 ∷ 0x46 ∷ 0x46 ∷ []) ≡ Some 4294967295
hex-most = refl

-- `4294967296`
hex-over : numeral (0x34 ∷ 0x32 ∷ 0x39 ∷ 0x34 ∷ 0x39 ∷ 0x36 ∷ 0x37 ∷ 0x32 ∷ 0x39 ∷ 0x36 ∷ []) ≡ None
hex-over = refl

-- `0x`
hex_bare : numeral (0x30 ∷ 0x78 ∷ []) ≡ None
hex_bare = refl

-- `1 2`
hex-apart : numeral (0x31 ∷ 0x20 ∷ 0x32 ∷ []) ≡ None
hex-apart = refl

-- `Yes`
yes : says flag (0x59 ∷ 0x65 ∷ 0x73 ∷ []) ≡ 0x31 ∷ []
unfolding trues
yes = refl

-- `FALSE`
no : says flag (0x46 ∷ 0x41 ∷ 0x4c ∷ 0x53 ∷ 0x45 ∷ []) ≡ 0x30 ∷ []
unfolding trues falses
no = refl

-- `on`
on : valid flag (0x6f ∷ 0x6e ∷ []) ≡ false
unfolding trues falses
on = refl

-- a flag that is missing
none-flag : unsaid flag ≡ 0x30 ∷ []
none-flag = refl

-- a number that is missing
none_number : unsaid optional_number ≡ 0x2d ∷ []
none_number = refl
