-- E9 (docs/RULES.md): A5 C3 is walked by the loaded P lines of that text.
use Rattle.std.specs.Prelude.{◌≡◌, refl, List, [], ◌∷◌, ℕ, Some}
use Rattle.bits.specs.Bits.{bits_at}
use Rattle.frame_definition.specs.Definition.{Numbered}
use Rattle.header_fields.specs.Fields.{param_at, fields_from, fields_in}
use Rattle.frame_text.specs.Form.{names}
use Rattle.header_rules.specs.Rows.{Row, find_row, flat_value}
use Rattle.header_rules.specs.Flat.{row_at, insert_at, by_order, flat_width, flat_exists, flat_packed, flat_field, flat_listed}
use Rattle.header_rules.specs.Loaded.{name_of, places_of, since, inside_of, outer_from, walked_from}
use Rattle.header_rules.specs.Level.{said_at}

-- HomePropsTypeFlags, and the path Props.Type
abbrev text : List ℕ
text =
    72 ∷ 111 ∷ 109 ∷ 101 ∷ 80 ∷ 114 ∷ 111 ∷ 112 ∷ 115 ∷ 84 ∷ 121 ∷ 112 ∷ 101 ∷ 70 ∷ 108 ∷ 97 ∷ 103 ∷ 115 ∷ []

abbrev path : List ℕ
path = 80 ∷ 114 ∷ 111 ∷ 112 ∷ 115 ∷ 46 ∷ 84 ∷ 121 ∷ 112 ∷ 101 ∷ []

-- the four lines of a table
abbrev table : List ℕ
table =
    0 ∷ 0 ∷ 8 ∷ 0 ∷ 0 ∷ 4 ∷ 0 ∷ 0 ∷ 0 ∷ 0 ∷ 0 ∷ 0 ∷ 0 ∷
    0 ∷ 1 ∷ 8 ∷ 0 ∷ 4 ∷ 5 ∷ 0 ∷ 0 ∷ 0 ∷ 0 ∷ 0 ∷ 0 ∷ 1 ∷
    1 ∷ 0 ∷ 4 ∷ 0 ∷ 9 ∷ 4 ∷ 0 ∷ 0 ∷ 0 ∷ 0 ∷ 0 ∷ 0 ∷ 2 ∷
    1 ∷ 1 ∷ 4 ∷ 0 ∷ 13 ∷ 5 ∷ 0 ∷ 0 ∷ 0 ∷ 0 ∷ 0 ∷ 0 ∷ 3 ∷ []

abbrev lines : List Numbered
lines = fields_in text table 4

abbrev row : ℕ → ℕ → ℕ → ℕ → ℕ → Row
row place parent start bits value = record { number = place; parent = parent; start = start; bits = bits; valued = 1; value = value }

-- E9: the four rows
abbrev rows : List Row
rows = row 0 0 0 8 0xA5 ∷ row 1 0 8 8 0xC3 ∷ row 2 2 12 4 3 ∷ row 3 2 8 4 12 ∷ []

walked : walked_from lines (0xA5 ∷ 0xC3 ∷ []) 0 0 [] ≡ record { rows = rows; bit = 16 }
unfolding bits_at param_at fields_from said_at places_of since inside_of outer_from walked_from insert_at by_order find_row flat_value row_at flat_width flat_exists
    flat_packed flat_field flat_listed
walked = refl

found : flat_value (name_of lines) rows (names path) 0 ≡ Some 3
unfolding param_at fields_from said_at find_row flat_value
found = refl
