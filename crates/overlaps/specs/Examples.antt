-- Frame texts whose headers are told apart, and some that are not. In the comments `|` is a tab and `/` a line end.
use Rattle.std.specs.Prelude.{◌≡◌, refl, true, false, List, [], ◌∷◌, ℕ}
use Rattle.bits.specs.Bits.{bits_at}
use Rattle.frame_definition.specs.Definition.{definition}
use Rattle.header_rules.specs.Find.{value_of, first_named, through, in_first, value_at, width_of}
use Rattle.header_rules.specs.Order.{insert, ordered}
use Rattle.header_rules.specs.Walk.{exists, packed, inner_at, listed, base_read, reading}
use Rattle.header_rules.specs.Answer.{answer}
use Rattle.header_rules.specs.Trees.{of_level, kids, trees}
use Rattle.header_rules.specs.Table.{numbers_of, inner_table, table_from, rows_each}
use Rattle.header_rules.specs.Told.{more_rows, told}
use Rattle.overlaps.specs.Overlaps.{harmless, tell_numbers}

-- `B|0/P|0|0|8|HEX|k|-|-|-/H|0|0|0000|a/V|k|1/H|1|0|0000|b/V|k|2/`
-- Both are told apart by a field of the base
abbrev bases : List ℕ
bases =
    66 ∷ 9 ∷ 48 ∷ 10 ∷ 80 ∷ 9 ∷ 48 ∷ 9 ∷ 48 ∷ 9 ∷ 56 ∷ 9 ∷ 72 ∷ 69 ∷ 88 ∷ 9 ∷ 107 ∷ 9 ∷ 45 ∷ 9 ∷ 45 ∷ 9
    ∷ 45 ∷ 10 ∷ 72 ∷ 9 ∷ 48 ∷ 9 ∷ 48 ∷ 9 ∷ 48 ∷ 48 ∷ 48 ∷ 48 ∷ 9 ∷ 97 ∷ 10 ∷ 86 ∷ 9 ∷ 107 ∷ 9 ∷ 49 ∷ 10
    ∷ 72 ∷ 9 ∷ 49 ∷ 9 ∷ 48 ∷ 9 ∷ 48 ∷ 48 ∷ 48 ∷ 48 ∷ 9 ∷ 98 ∷ 10 ∷ 86 ∷ 9 ∷ 107 ∷ 9 ∷ 50 ∷ 10 ∷ []

bases-apart : tell_numbers bases 0 1 ≡ 3
unfolding tell_numbers
bases-apart = refl

bases-harmless : harmless bases ≡ true
unfolding harmless
bases-harmless = refl

-- `B|0/P|0|0|24|HEX|x|-|-|-/H|0|0|0000|a/P|0|0|8|HEX|x|-|-|-/V|x|1/H|1|0|0000|b/P|0|0|8|HEX|y|-|-|-/P|0|1|8|HEX|x|-|-|-/V|x|2/`
-- Both have a field `x` of their own, beside the base's. An MPDU of two bytes is too short for the base's, and both hold: the first finds 1 in its first byte,
-- the second 2 in the other
abbrev short : List ℕ
short =
    66 ∷ 9 ∷ 48 ∷ 10 ∷ 80 ∷ 9 ∷ 48 ∷ 9 ∷ 48 ∷ 9 ∷ 50 ∷ 52 ∷ 9 ∷ 72 ∷ 69 ∷ 88 ∷ 9 ∷ 120 ∷ 9 ∷ 45 ∷ 9 ∷ 45
    ∷ 9 ∷ 45 ∷ 10 ∷ 72 ∷ 9 ∷ 48 ∷ 9 ∷ 48 ∷ 9 ∷ 48 ∷ 48 ∷ 48 ∷ 48 ∷ 9 ∷ 97 ∷ 10 ∷ 80 ∷ 9 ∷ 48 ∷ 9 ∷ 48 ∷ 9
    ∷ 56 ∷ 9 ∷ 72 ∷ 69 ∷ 88 ∷ 9 ∷ 120 ∷ 9 ∷ 45 ∷ 9 ∷ 45 ∷ 9 ∷ 45 ∷ 10 ∷ 86 ∷ 9 ∷ 120 ∷ 9 ∷ 49 ∷ 10 ∷ 72
    ∷ 9 ∷ 49 ∷ 9 ∷ 48 ∷ 9 ∷ 48 ∷ 48 ∷ 48 ∷ 48 ∷ 9 ∷ 98 ∷ 10 ∷ 80 ∷ 9 ∷ 48 ∷ 9 ∷ 48 ∷ 9 ∷ 56 ∷ 9 ∷ 72 ∷ 69
    ∷ 88 ∷ 9 ∷ 121 ∷ 9 ∷ 45 ∷ 9 ∷ 45 ∷ 9 ∷ 45 ∷ 10 ∷ 80 ∷ 9 ∷ 48 ∷ 9 ∷ 49 ∷ 9 ∷ 56 ∷ 9 ∷ 72 ∷ 69 ∷ 88 ∷ 9
    ∷ 120 ∷ 9 ∷ 45 ∷ 9 ∷ 45 ∷ 9 ∷ 45 ∷ 10 ∷ 86 ∷ 9 ∷ 120 ∷ 9 ∷ 50 ∷ 10 ∷ []

short_own : tell_numbers short 0 1 ≡ 2
unfolding tell_numbers
short_own = refl

short_harmful : harmless short ≡ false
unfolding harmless
short_harmful = refl

-- the first answers with one row
first_holds : told (definition short) (1 ∷ 2 ∷ []) 0 0 ≡ more_rows 1
unfolding told answer reading base_read listed exists packed inner_at ordered insert width_of value_at in_first through first_named value_of bits_at trees kids
    of_level table_from inner_table numbers_of rows_each
first_holds = refl

-- `B|0/P|0|0|24|HEX|x|-|-|-/H|1|0|0000|b/P|0|0|8|HEX|y|-|-|-/P|0|1|8|HEX|x|-|-|-/V|x|2/H|0|0|0000|a/P|0|0|8|HEX|x|-|-|-/V|x|1/`
-- The same with its H blocks in the other order
abbrev swapped : List ℕ
swapped =
    66 ∷ 9 ∷ 48 ∷ 10 ∷ 80 ∷ 9 ∷ 48 ∷ 9 ∷ 48 ∷ 9 ∷ 50 ∷ 52 ∷ 9 ∷ 72 ∷ 69 ∷ 88 ∷ 9 ∷ 120 ∷ 9 ∷ 45 ∷ 9 ∷ 45
    ∷ 9 ∷ 45 ∷ 10 ∷ 72 ∷ 9 ∷ 49 ∷ 9 ∷ 48 ∷ 9 ∷ 48 ∷ 48 ∷ 48 ∷ 48 ∷ 9 ∷ 98 ∷ 10 ∷ 80 ∷ 9 ∷ 48 ∷ 9 ∷ 48 ∷ 9
    ∷ 56 ∷ 9 ∷ 72 ∷ 69 ∷ 88 ∷ 9 ∷ 121 ∷ 9 ∷ 45 ∷ 9 ∷ 45 ∷ 9 ∷ 45 ∷ 10 ∷ 80 ∷ 9 ∷ 48 ∷ 9 ∷ 49 ∷ 9 ∷ 56 ∷ 9
    ∷ 72 ∷ 69 ∷ 88 ∷ 9 ∷ 120 ∷ 9 ∷ 45 ∷ 9 ∷ 45 ∷ 9 ∷ 45 ∷ 10 ∷ 86 ∷ 9 ∷ 120 ∷ 9 ∷ 50 ∷ 10 ∷ 72 ∷ 9 ∷ 48
    ∷ 9 ∷ 48 ∷ 9 ∷ 48 ∷ 48 ∷ 48 ∷ 48 ∷ 9 ∷ 97 ∷ 10 ∷ 80 ∷ 9 ∷ 48 ∷ 9 ∷ 48 ∷ 9 ∷ 56 ∷ 9 ∷ 72 ∷ 69 ∷ 88 ∷ 9
    ∷ 120 ∷ 9 ∷ 45 ∷ 9 ∷ 45 ∷ 9 ∷ 45 ∷ 10 ∷ 86 ∷ 9 ∷ 120 ∷ 9 ∷ 49 ∷ 10 ∷ []

-- and now the second, with two
second_holds : told (definition swapped) (1 ∷ 2 ∷ []) 0 0 ≡ more_rows 2
unfolding told answer reading base_read listed exists packed inner_at ordered insert width_of value_at in_first through first_named value_of bits_at trees kids
    of_level table_from inner_table numbers_of rows_each
second_holds = refl

-- `B|0/H|0|0|0000|a/P|0|0|8|HEX|x|-|-|-/P|1|0|4|HEX|y|-|-|-/P|1|1|4|HEX|m|-|-|-/V|x.y|1/
-- H|1|0|0000|b/V|x.y|2/P|0|0|8|HEX|x|-|-|-/P|1|0|4|HEX|y|-|-|-/P|0|1|8|HEX|n|-|-|-/`
-- Fields of their own that say the same up to the one that is looked at: `x` and the first inside it
abbrev alikes : List ℕ
alikes =
    66 ∷ 9 ∷ 48 ∷ 10 ∷ 72 ∷ 9 ∷ 48 ∷ 9 ∷ 48 ∷ 9 ∷ 48 ∷ 48 ∷ 48 ∷ 48 ∷ 9 ∷ 97 ∷ 10 ∷ 80 ∷ 9 ∷ 48 ∷ 9 ∷ 48
    ∷ 9 ∷ 56 ∷ 9 ∷ 72 ∷ 69 ∷ 88 ∷ 9 ∷ 120 ∷ 9 ∷ 45 ∷ 9 ∷ 45 ∷ 9 ∷ 45 ∷ 10 ∷ 80 ∷ 9 ∷ 49 ∷ 9 ∷ 48 ∷ 9 ∷ 52
    ∷ 9 ∷ 72 ∷ 69 ∷ 88 ∷ 9 ∷ 121 ∷ 9 ∷ 45 ∷ 9 ∷ 45 ∷ 9 ∷ 45 ∷ 10 ∷ 80 ∷ 9 ∷ 49 ∷ 9 ∷ 49 ∷ 9 ∷ 52 ∷ 9 ∷ 72
    ∷ 69 ∷ 88 ∷ 9 ∷ 109 ∷ 9 ∷ 45 ∷ 9 ∷ 45 ∷ 9 ∷ 45 ∷ 10 ∷ 86 ∷ 9 ∷ 120 ∷ 46 ∷ 121 ∷ 9 ∷ 49 ∷ 10 ∷ 72 ∷ 9
    ∷ 49 ∷ 9 ∷ 48 ∷ 9 ∷ 48 ∷ 48 ∷ 48 ∷ 48 ∷ 9 ∷ 98 ∷ 10 ∷ 86 ∷ 9 ∷ 120 ∷ 46 ∷ 121 ∷ 9 ∷ 50 ∷ 10 ∷ 80 ∷ 9
    ∷ 48 ∷ 9 ∷ 48 ∷ 9 ∷ 56 ∷ 9 ∷ 72 ∷ 69 ∷ 88 ∷ 9 ∷ 120 ∷ 9 ∷ 45 ∷ 9 ∷ 45 ∷ 9 ∷ 45 ∷ 10 ∷ 80 ∷ 9 ∷ 49 ∷ 9
    ∷ 48 ∷ 9 ∷ 52 ∷ 9 ∷ 72 ∷ 69 ∷ 88 ∷ 9 ∷ 121 ∷ 9 ∷ 45 ∷ 9 ∷ 45 ∷ 9 ∷ 45 ∷ 10 ∷ 80 ∷ 9 ∷ 48 ∷ 9 ∷ 49 ∷ 9
    ∷ 56 ∷ 9 ∷ 72 ∷ 69 ∷ 88 ∷ 9 ∷ 110 ∷ 9 ∷ 45 ∷ 9 ∷ 45 ∷ 9 ∷ 45 ∷ 10 ∷ []

alikes-apart : tell_numbers alikes 0 1 ≡ 3
unfolding tell_numbers
alikes-apart = refl

-- `B|0/P|0|0|8|HEX|k|-|-|-/P|0|1|8|HEX|l|-|-|-/H|0|0|0000|a/V|k|1/H|1|0|0000|b/V|l|2/H|2|0|0000|c/V|k|1/`
-- No common path, and the same value
abbrev alone : List ℕ
alone =
    66 ∷ 9 ∷ 48 ∷ 10 ∷ 80 ∷ 9 ∷ 48 ∷ 9 ∷ 48 ∷ 9 ∷ 56 ∷ 9 ∷ 72 ∷ 69 ∷ 88 ∷ 9 ∷ 107 ∷ 9 ∷ 45 ∷ 9 ∷ 45 ∷ 9
    ∷ 45 ∷ 10 ∷ 80 ∷ 9 ∷ 48 ∷ 9 ∷ 49 ∷ 9 ∷ 56 ∷ 9 ∷ 72 ∷ 69 ∷ 88 ∷ 9 ∷ 108 ∷ 9 ∷ 45 ∷ 9 ∷ 45 ∷ 9 ∷ 45 ∷ 10
    ∷ 72 ∷ 9 ∷ 48 ∷ 9 ∷ 48 ∷ 9 ∷ 48 ∷ 48 ∷ 48 ∷ 48 ∷ 9 ∷ 97 ∷ 10 ∷ 86 ∷ 9 ∷ 107 ∷ 9 ∷ 49 ∷ 10 ∷ 72 ∷ 9
    ∷ 49 ∷ 9 ∷ 48 ∷ 9 ∷ 48 ∷ 48 ∷ 48 ∷ 48 ∷ 9 ∷ 98 ∷ 10 ∷ 86 ∷ 9 ∷ 108 ∷ 9 ∷ 50 ∷ 10 ∷ 72 ∷ 9 ∷ 50 ∷ 9
    ∷ 48 ∷ 9 ∷ 48 ∷ 48 ∷ 48 ∷ 48 ∷ 9 ∷ 99 ∷ 10 ∷ 86 ∷ 9 ∷ 107 ∷ 9 ∷ 49 ∷ 10 ∷ []

alone-path : tell_numbers alone 0 1 ≡ 0
unfolding tell_numbers
alone-path = refl

alone-value : tell_numbers alone 0 2 ≡ 1
unfolding tell_numbers
alone-value = refl

-- there is no header 3
alone-none : tell_numbers alone 0 3 ≡ 4
unfolding tell_numbers
alone-none = refl
