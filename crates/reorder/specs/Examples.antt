-- Two H blocks that change places, worked out. In the comments `|` is a tab and `/` a line end.
use Rattle.std.specs.Prelude.{◌≡◌, refl, true, false, List, [], ◌∷◌, map, ℕ, Ok}
use Rattle.bits.specs.Bits.{bits_at}
use Rattle.crc.specs.Crc.{right}
use Rattle.crc.specs.Poly.{plus}
use Rattle.frame_text.specs.Rules.{verdict}
use Rattle.frame_definition.specs.Names.{header_name}
use Rattle.header_rules.specs.Find.{value_of, first_named, through, in_first, value_at, width_of}
use Rattle.header_rules.specs.Order.{insert, ordered}
use Rattle.header_rules.specs.Walk.{exists, packed, inner_at, listed, base_read, reading}
use Rattle.header_rules.specs.Answer.{answer}
use Rattle.header_rules.specs.Trees.{of_level, kids, trees}
use Rattle.header_rules.specs.Table.{numbers_of, inner_table, table_from, rows_each}
use Rattle.header_rules.specs.Told.{told}
use Rattle.header.specs.Decode.{decoded, told_of, rows_of}
use Rattle.reorder.specs.Blocks.{Section, Line, written, says_of, sections_of}
use Rattle.reorder.specs.Reorder.{Reordered, new_header, new_param}
use Rattle.reorder.specs.Sorted.{sorted_text}

-- the lines `B|0/P|0|0|8|HEX|Home|-|-|-/`, `H|7|0|1000|x/P|0|0|8|HEX|One|-|-|-/V|Home|1/`, `D|s/E|1|on/` and
-- `H|8|0|0001|y/P|0|0|4|HEX|Two|-|-|-/P|0|1|4|HEX|Three|-|-|-/V|Home|2/`
abbrev B : Line
B = 66 ∷ 9 ∷ 48 ∷ []

abbrev A : Line
A = 80 ∷ 9 ∷ 48 ∷ 9 ∷ 48 ∷ 9 ∷ 56 ∷ 9 ∷ 72 ∷ 69 ∷ 88 ∷ 9 ∷ 72 ∷ 111 ∷ 109 ∷ 101 ∷ 9 ∷ 45 ∷ 9 ∷ 45 ∷ 9 ∷ 45 ∷ []

abbrev HX : Line
HX = 72 ∷ 9 ∷ 55 ∷ 9 ∷ 48 ∷ 9 ∷ 49 ∷ 48 ∷ 48 ∷ 48 ∷ 9 ∷ 120 ∷ []

abbrev PX : Line
PX = 80 ∷ 9 ∷ 48 ∷ 9 ∷ 48 ∷ 9 ∷ 56 ∷ 9 ∷ 72 ∷ 69 ∷ 88 ∷ 9 ∷ 79 ∷ 110 ∷ 101 ∷ 9 ∷ 45 ∷ 9 ∷ 45 ∷ 9 ∷ 45 ∷ []

abbrev VX : Line
VX = 86 ∷ 9 ∷ 72 ∷ 111 ∷ 109 ∷ 101 ∷ 9 ∷ 49 ∷ []

abbrev D : Line
D = 68 ∷ 9 ∷ 115 ∷ []

abbrev E : Line
E = 69 ∷ 9 ∷ 49 ∷ 9 ∷ 111 ∷ 110 ∷ []

abbrev HY : Line
HY = 72 ∷ 9 ∷ 56 ∷ 9 ∷ 48 ∷ 9 ∷ 48 ∷ 48 ∷ 48 ∷ 49 ∷ 9 ∷ 121 ∷ []

abbrev PY : Line
PY = 80 ∷ 9 ∷ 48 ∷ 9 ∷ 48 ∷ 9 ∷ 52 ∷ 9 ∷ 72 ∷ 69 ∷ 88 ∷ 9 ∷ 84 ∷ 119 ∷ 111 ∷ 9 ∷ 45 ∷ 9 ∷ 45 ∷ 9 ∷ 45 ∷ []

abbrev PY2 : Line
PY2 = 80 ∷ 9 ∷ 48 ∷ 9 ∷ 49 ∷ 9 ∷ 52 ∷ 9 ∷ 72 ∷ 69 ∷ 88 ∷ 9 ∷ 84 ∷ 104 ∷ 114 ∷ 101 ∷ 101 ∷ 9 ∷ 45 ∷ 9 ∷ 45 ∷ 9 ∷ 45
    ∷ []

abbrev VY : Line
VY = 86 ∷ 9 ∷ 72 ∷ 111 ∷ 109 ∷ 101 ∷ 9 ∷ 50 ∷ []

abbrev before : List ℕ
before = written (B ∷ A ∷ HX ∷ PX ∷ VX ∷ D ∷ E ∷ HY ∷ PY ∷ PY2 ∷ VY ∷ [])

-- and with the H lines in the other order
abbrev after : List ℕ
after = written (B ∷ A ∷ HY ∷ PY ∷ PY2 ∷ VY ∷ D ∷ E ∷ HX ∷ PX ∷ VX ∷ [])

both-accepted : (verdict before ≡ Ok tt) × (verdict after ≡ Ok tt)
both-accepted = (refl, refl)

-- the sections of the first text: H lines and P lines before it, the owner, the lines under it
abbrev b : Section Line
b = record { headers = 0; params = 0; owner = B; under = A ∷ [] }

abbrev x : Section Line
x = record { headers = 0; params = 1; owner = HX; under = PX ∷ VX ∷ [] }

abbrev s : Section Line
s = record { headers = 1; params = 2; owner = D; under = E ∷ [] }

abbrev y : Section Line
y = record { headers = 1; params = 2; owner = HY; under = PY ∷ PY2 ∷ VY ∷ [] }

sections_are : sections_of before ≡ b ∷ x ∷ s ∷ y ∷ []
unfolding says_of
sections_are = refl

abbrev order : List (Section Line)
order = b ∷ y ∷ s ∷ x ∷ []

reordered : Reordered before after
unfolding says_of
reordered = record { order = order; others = refl; moved = (y ∷ [], [], refl, ([], [], refl, refl)); has = refl }

-- the H lines 0 and 1 become 1 and 0, the P lines 0, 1, 2 and 3 become 0, 3, 1 and 2
headers_follow : map (new_header order) (0 ∷ 1 ∷ []) ≡ 1 ∷ 0 ∷ []
unfolding says_of
headers_follow = refl

params_follow : map (new_param order) (0 ∷ 1 ∷ 2 ∷ 3 ∷ []) ≡ 0 ∷ 3 ∷ 1 ∷ 2 ∷ []
unfolding says_of
params_follow = refl

-- sorted by name, x stands before y again
sorted : sorted_text after ≡ before
unfolding says_of
sorted = refl

-- 02 C3: y, with other numbers
y-before : rows_of (told_of before (0x02 ∷ 0xC3 ∷ []) 0 0 30)
    ≡ (0 ∷ 0 ∷ 0 ∷ 8 ∷ 1 ∷ 2 ∷ 0 ∷ []) ∷ (2 ∷ 0 ∷ 8 ∷ 4 ∷ 1 ∷ 12 ∷ 0 ∷ [])
    ∷ (3 ∷ 0 ∷ 12 ∷ 4 ∷ 1 ∷ 3 ∷ 0 ∷ []) ∷ []
unfolding told answer reading base_read listed exists packed inner_at ordered insert width_of value_at in_first through first_named value_of bits_at trees kids
    of_level table_from inner_table numbers_of rows_each
y-before = refl

y-after : rows_of (told_of after (0x02 ∷ 0xC3 ∷ []) 0 0 30)
    ≡ (0 ∷ 0 ∷ 0 ∷ 8 ∷ 1 ∷ 2 ∷ 0 ∷ []) ∷ (1 ∷ 0 ∷ 8 ∷ 4 ∷ 1 ∷ 12 ∷ 0 ∷ [])
    ∷ (2 ∷ 0 ∷ 12 ∷ 4 ∷ 1 ∷ 3 ∷ 0 ∷ []) ∷ []
unfolding told answer reading base_read listed exists packed inner_at ordered insert width_of value_at in_first through first_named value_of bits_at trees kids
    of_level table_from inner_table numbers_of rows_each
y-after = refl

header-before : decoded before (0x02 ∷ 0xC3 ∷ []) 0 0 30
    ≡ Ok (record {
      number = 1;
      key = 8;
      flags = record { ack = false; routed = false; multicast = false; error = true };
      name = record { start = 93; len = 1 };
      payload = 2;
      right = false;
      rows = 3;
    })
unfolding told answer reading base_read listed exists packed inner_at ordered insert width_of value_at in_first through first_named value_of bits_at trees kids
    of_level table_from inner_table numbers_of rows_each right plus header_name
header-before = refl

header-after : decoded after (0x02 ∷ 0xC3 ∷ []) 0 0 30
    ≡ Ok (record {
      number = 0;
      key = 8;
      flags = record { ack = false; routed = false; multicast = false; error = true };
      name = record { start = 38; len = 1 };
      payload = 2;
      right = false;
      rows = 3;
    })
unfolding told answer reading base_read listed exists packed inner_at ordered insert width_of value_at in_first through first_named value_of bits_at trees kids
    of_level table_from inner_table numbers_of rows_each right plus header_name
header-after = refl
