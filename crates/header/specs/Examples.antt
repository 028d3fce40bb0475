-- E9 and E10 (docs/RULES.md), and refusals by the same text.
use Rattle.std.specs.Prelude.{◌≡◌, refl, false, List, [], ◌∷◌, ℕ, Ok, Err}
use Rattle.refusal.specs.declared.Refusal.TheVariants.{Form, TooShort, NoBase, NoCandidate, MoreRows}
use Rattle.frame_definition.specs.Names.{header_name}
use Rattle.bits.specs.Bits.{bits_at}
use Rattle.crc.specs.Crc.{right}
use Rattle.crc.specs.Poly.{plus}
use Rattle.header_rules.specs.Find.{value_of, first_named, through, in_first, value_at, width_of}
use Rattle.header_rules.specs.Order.{insert, ordered}
use Rattle.header_rules.specs.Walk.{exists, packed, inner_at, listed, base_read, reading}
use Rattle.header_rules.specs.Answer.{answer}
use Rattle.header_rules.specs.Trees.{of_level, kids, trees}
use Rattle.header_rules.specs.Table.{numbers_of, inner_table, table_from, rows_each}
use Rattle.header_rules.specs.Told.{told}
use Rattle.header.specs.Decode.{decoded, told_of, table_after}

-- `B|0/P|0|0|8|HEX|Home|-|-|-/P|0|1|8|HEX|Props|-|-|-/P|1|0|4|HEX|Type|-|-|-/P|1|1|4|HEX|Flags|-|-|-/H|0|0|0000|x/V|Props.Type|3/`, | a tab and / a line end
abbrev pub text : List ℕ
text =
    66 ∷ 9 ∷ 48 ∷ 10 ∷ 80 ∷ 9 ∷ 48 ∷ 9 ∷ 48 ∷ 9 ∷ 56 ∷ 9 ∷ 72 ∷ 69 ∷ 88 ∷ 9 ∷ 72 ∷ 111 ∷ 109 ∷ 101 ∷ 9 ∷ 45 ∷ 9
    ∷ 45 ∷ 9 ∷ 45 ∷ 10 ∷ 80 ∷ 9 ∷ 48 ∷ 9 ∷ 49 ∷ 9 ∷ 56 ∷ 9 ∷ 72 ∷ 69 ∷ 88 ∷ 9 ∷ 80 ∷ 114 ∷ 111 ∷ 112 ∷ 115 ∷ 9
    ∷ 45 ∷ 9 ∷ 45 ∷ 9 ∷ 45 ∷ 10 ∷ 80 ∷ 9 ∷ 49 ∷ 9 ∷ 48 ∷ 9 ∷ 52 ∷ 9 ∷ 72 ∷ 69 ∷ 88 ∷ 9 ∷ 84 ∷ 121 ∷ 112 ∷ 101
    ∷ 9 ∷ 45 ∷ 9 ∷ 45 ∷ 9 ∷ 45 ∷ 10 ∷ 80 ∷ 9 ∷ 49 ∷ 9 ∷ 49 ∷ 9 ∷ 52 ∷ 9 ∷ 72 ∷ 69 ∷ 88 ∷ 9 ∷ 70 ∷ 108 ∷ 97
    ∷ 103 ∷ 115 ∷ 9 ∷ 45 ∷ 9 ∷ 45 ∷ 9 ∷ 45 ∷ 10 ∷ 72 ∷ 9 ∷ 48 ∷ 9 ∷ 48 ∷ 9 ∷ 48 ∷ 48 ∷ 48 ∷ 48 ∷ 9 ∷ 120 ∷ 10
    ∷ 86 ∷ 9 ∷ 80 ∷ 114 ∷ 111 ∷ 112 ∷ 115 ∷ 46 ∷ 84 ∷ 121 ∷ 112 ∷ 101 ∷ 9 ∷ 51 ∷ 10 ∷ []

-- E9: A5 C3, by a table of 30 numbers
pub a5c3 : decoded text (0xA5 ∷ 0xC3 ∷ []) 0 0 30
    ≡ Ok (record {
      number = 0;
      key = 0;
      flags = record { ack = false; routed = false; multicast = false; error = false };
      name = record { start = 109; len = 1 };
      payload = 2;
      right = false;
      rows = 4;
    })
unfolding told answer reading base_read listed exists packed inner_at ordered insert width_of value_at in_first through first_named value_of bits_at trees kids
    of_level table_from inner_table numbers_of rows_each right plus header_name
a5c3 = refl

-- E9: the four rows; the two numbers behind them are as they were
abbrev pub table : List ℕ
table = 9 ∷ 9 ∷ 9 ∷ 9 ∷ 9 ∷ 9 ∷ 9 ∷ 9 ∷ 9 ∷ 9 ∷ 9 ∷ 9 ∷ 9 ∷ 9 ∷ 9 ∷ 9 ∷ 9 ∷ 9 ∷ 9 ∷ 9 ∷ 9 ∷ 9 ∷ 9 ∷ 9 ∷ 9
    ∷ 9 ∷ 9 ∷ 9 ∷ 9 ∷ 9 ∷ []

pub a5c3-rows : table_after table (told_of text (0xA5 ∷ 0xC3 ∷ []) 0 0 30) (decoded text (0xA5 ∷ 0xC3 ∷ []) 0 0 30)
    ≡ 0 ∷ 0 ∷ 0 ∷ 8 ∷ 1 ∷ 0xA5 ∷ 0
    ∷ 1 ∷ 0 ∷ 8 ∷ 8 ∷ 1 ∷ 0xC3 ∷ 0
    ∷ 2 ∷ 2 ∷ 12 ∷ 4 ∷ 1 ∷ 3 ∷ 0
    ∷ 3 ∷ 2 ∷ 8 ∷ 4 ∷ 1 ∷ 12 ∷ 0
    ∷ 9 ∷ 9 ∷ []
unfolding told answer reading base_read listed exists packed inner_at ordered insert width_of value_at in_first through first_named value_of bits_at trees kids
    of_level table_from inner_table numbers_of rows_each right plus
a5c3-rows = refl

-- E10: A5 3C
pub a53c : decoded text (0xA5 ∷ 0x3C ∷ []) 0 0 30 ≡ Err NoCandidate
unfolding told answer reading base_read listed exists packed inner_at ordered insert width_of value_at in_first through first_named value_of bits_at trees kids
    of_level table_from inner_table numbers_of rows_each
a53c = refl

-- a table of 27 numbers: refusal 8, four rows are needed
few_rows : decoded text (0xA5 ∷ 0xC3 ∷ []) 0 0 27 ≡ Err (MoreRows 4)
unfolding told answer reading base_read listed exists packed inner_at ordered insert width_of value_at in_first through first_named value_of bits_at trees kids
    of_level table_from inner_table numbers_of rows_each
few_rows = refl

-- speed 3, whose base key is 2: refusal 6
no_key : decoded text (0xA5 ∷ 0xC3 ∷ []) 0 3 30 ≡ Err (NoBase 2)
unfolding told
no_key = refl

-- one byte: refusal 5
one_byte : decoded text (0xA5 ∷ []) 0 0 30 ≡ Err (TooShort 1)
one_byte = refl

-- no tab in line 1: refusal 1, before the MPDU's length
bad_line : decoded (66 ∷ 48 ∷ 10 ∷ []) [] 0 0 30 ≡ Err (Form 1)
bad_line = refl
