-- VT1, VT2 (docs/RULES.md): values as people read them.
use Rattle.std.specs.Prelude.{Bool, true, false, cond, ◌&&◌, not, List, [], ◌∷◌, ℕ, ◌%◌, eqb, leb, length, Option, Some, None}
use Rattle.frame_text.specs.declared.ParamType.{ParamType}
use Rattle.frame_text.specs.declared.ParamType.TheVariants.{Hex, Number, NumberSigned, NodeNumber, Boolean, Bitmask}
use Rattle.numerals.specs.Numerals.{decimal, signed, hex, pairs}
use Rattle.lossy.specs.Lossy.{shown}

-- VT3: `false` for 0, `true` for any other
abbrev pub word : ℕ → List ℕ
word v = cond (eqb v 0) (0x66 ∷ 0x61 ∷ 0x6c ∷ 0x73 ∷ 0x65 ∷ []) (0x74 ∷ 0x72 ∷ 0x75 ∷ 0x65 ∷ [])

abbrev pub some? : List ℕ → Bool
some? l = not (eqb (length l) 0)

-- ---- a field of a header

-- VT1: a value, by the field's type
abbrev pub value_text : ParamType → ℕ → List ℕ
value_text Hex v = hex v
value_text Number v = decimal v
value_text NumberSigned v = signed (v % 256)
value_text NodeNumber v = decimal v
value_text Boolean v = word v
value_text Bitmask v = hex v

-- VT1: nothing for no value
abbrev pub if_valued : ParamType → Option ℕ → List ℕ
if_valued type (Some v) = value_text type v
if_valued type None = []

-- VT1: fields of these types show their bytes, where they have any
abbrev pub in_bytes : ParamType → Bool
in_bytes Hex = true
in_bytes Number = false
in_bytes NumberSigned = false
in_bytes NodeNumber = false
in_bytes Boolean = false
in_bytes Bitmask = true

-- VT1: a field of a header, by its symbol's name, its type, its value and its bytes; a symbol's name of no bytes is none
unfoldable pub display_value : List ℕ → ParamType → Option ℕ → List ℕ → List ℕ
display_value symbol type v bytes = cond (some? symbol) symbol (cond (some? bytes && in_bytes type) (pairs bytes) (if_valued type v))

-- ---- a parameter of a command

-- VT2: all bytes, up to 4 of them behind a mark
abbrev pub bytes_text : List ℕ → List ℕ
bytes_text bytes = cond (leb (length bytes) 4) (0x30 ∷ 0x78 ∷ pairs bytes) (pairs bytes)

-- VT2: a parameter, by whether it is ascii, its const's name and its bytes; a name of no bytes is none
unfoldable pub display : Bool → List ℕ → List ℕ → List ℕ
display ascii name bytes = cond ascii (shown bytes) (cond (some? name) name (bytes_text bytes))

-- VT2: a bit child, which is a T line, or an S line
unfoldable pub display_bit : Bool → ℕ → List ℕ
display_bit flag v = cond flag (word v) (decimal v)
