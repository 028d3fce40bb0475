-- A mask of two bytes in a header: rows that are such fields, and rows that are none.
use Rattle.std.specs.Prelude.{◌≡◌, refl, List, [], ◌∷◌, ℕ, Result, Ok, Err}
use Rattle.refusal.specs.declared.Refusal.TheVariants.{TooShort, MoreRows}
use Rattle.frame_definition.specs.Definition.{param_numbered}
use Rattle.frame_definition.specs.Names.{header_name}
use Rattle.bits.specs.Bits.{bits_at}
use Rattle.crc.specs.Crc.{right}
use Rattle.crc.specs.Poly.{plus}
use Rattle.header_rules.specs.Find.{value_of, first_named, through, in_first, value_at, width_of}
use Rattle.header_rules.specs.Order.{insert, ordered}
use Rattle.header_rules.specs.Walk.{exists, packed, inner_at, listed, base_read, reading}
use Rattle.header_rules.specs.Answer.{answer}
use Rattle.header_rules.specs.Trees.{of_level, kids, trees}
use Rattle.header_rules.specs.Table.{numbers_of, inner_table, table_from, rows_each}
use Rattle.header_rules.specs.Told.{told}
use Rattle.node_mask.specs.Nodes.{nodes_from, nodes_of}
use Rattle.header_nodes.specs.Fields.{param_type, is_mask, mask_at}
use Rattle.header_nodes.specs.Answer.{no_such_field, answer_of, rows_of, of_decoded}
use Rattle.refusal.specs.declared.Refusal.{Refusal}

-- `B|0/P|0|0|16|BITMASK|Mask|-|-|-/P|0|1|8|HEX|Type|-|-|-/P|1|0|4|BITMASK|Low|-|-|-/H|0|0|0000|x/V|Type|3/`, | a tab and / a line end
abbrev text : List ℕ
text =
    66 ∷ 9 ∷ 48 ∷ 10 ∷ 80 ∷ 9 ∷ 48 ∷ 9 ∷ 48 ∷ 9 ∷ 49 ∷ 54 ∷ 9 ∷ 66 ∷ 73 ∷ 84 ∷ 77 ∷ 65 ∷ 83 ∷ 75 ∷ 9 ∷ 77 ∷ 97
    ∷ 115 ∷ 107 ∷ 9 ∷ 45 ∷ 9 ∷ 45
    ∷ 9 ∷ 45 ∷ 10 ∷ 80 ∷ 9 ∷ 48 ∷ 9 ∷ 49 ∷ 9 ∷ 56 ∷ 9 ∷ 72 ∷ 69 ∷ 88 ∷ 9 ∷ 84 ∷ 121 ∷ 112 ∷ 101 ∷ 9 ∷ 45 ∷ 9
    ∷ 45 ∷ 9 ∷ 45 ∷ 10 ∷ 80 ∷ 9
    ∷ 49 ∷ 9 ∷ 48 ∷ 9 ∷ 52 ∷ 9 ∷ 66 ∷ 73 ∷ 84 ∷ 77 ∷ 65 ∷ 83 ∷ 75 ∷ 9 ∷ 76 ∷ 111 ∷ 119 ∷ 9 ∷ 45 ∷ 9 ∷ 45 ∷ 9
    ∷ 45 ∷ 10 ∷ 72 ∷ 9 ∷ 48 ∷ 9
    ∷ 48 ∷ 9 ∷ 48 ∷ 48 ∷ 48 ∷ 48 ∷ 9 ∷ 120 ∷ 10 ∷ 86 ∷ 9 ∷ 84 ∷ 121 ∷ 112 ∷ 101 ∷ 9 ∷ 51 ∷ 10 ∷ []

-- row k by a table of `room` nodes, of 05 80 03
abbrev asked : ℕ → ℕ → Result ℕ Refusal
asked k room = of_decoded text (0x05 ∷ 0x80 ∷ 0x03 ∷ []) (rows_of text (0x05 ∷ 0x80 ∷ 0x03 ∷ []) 0 0) k room
    (answer_of text (0x05 ∷ 0x80 ∷ 0x03 ∷ []) 0 0)

-- the mask: 1, 3 and 16
mask : asked 0 3 ≡ Ok 3
unfolding answer_of rows_of is_mask param_type param_numbered nodes_of nodes_from told answer reading base_read listed exists packed inner_at ordered insert width_of
    value_at in_first through first_named value_of bits_at trees kids of_level table_from inner_table numbers_of rows_each right plus header_name
mask = refl

mask_nodes : nodes_of (mask_at (0x05 ∷ 0x80 ∷ 0x03 ∷ []) (rows_of text (0x05 ∷ 0x80 ∷ 0x03 ∷ []) 0 0) 0) ≡ 1 ∷ 3 ∷ 16 ∷ []
unfolding answer_of rows_of is_mask param_type param_numbered nodes_of nodes_from told answer reading base_read listed exists packed inner_at ordered insert width_of
    value_at in_first through first_named value_of bits_at trees kids of_level table_from inner_table numbers_of rows_each right plus header_name
mask_nodes = refl

-- a table of two nodes
short : asked 0 2 ≡ Err (MoreRows 3)
unfolding answer_of rows_of is_mask param_type param_numbered nodes_of nodes_from told answer reading base_read listed exists packed inner_at ordered insert width_of
    value_at in_first through first_named value_of bits_at trees kids of_level table_from inner_table numbers_of rows_each right plus header_name
short = refl

-- HEX; a BITMASK of four bits; no row
hex : asked 1 0 ≡ no_such_field 1
unfolding answer_of rows_of is_mask param_type param_numbered nodes_of nodes_from told answer reading base_read listed exists packed inner_at ordered insert width_of
    value_at in_first through first_named value_of bits_at trees kids of_level table_from inner_table numbers_of rows_each right plus header_name
hex = refl

half : asked 2 0 ≡ no_such_field 2
unfolding answer_of rows_of is_mask param_type param_numbered nodes_of nodes_from told answer reading base_read listed exists packed inner_at ordered insert width_of
    value_at in_first through first_named value_of bits_at trees kids of_level table_from inner_table numbers_of rows_each right plus header_name
half = refl

past : asked 3 0 ≡ no_such_field 3
unfolding answer_of rows_of is_mask param_type param_numbered nodes_of nodes_from told answer reading base_read listed exists packed inner_at ordered insert width_of
    value_at in_first through first_named value_of bits_at trees kids of_level table_from inner_table numbers_of rows_each right plus header_name
past = refl

-- one byte: refusal 5 comes before 11
one_byte : of_decoded text (0x05 ∷ []) (rows_of text (0x05 ∷ []) 0 0) 7 0 (answer_of text (0x05 ∷ []) 0 0) ≡ Err (TooShort 1)
unfolding answer_of
one_byte = refl
