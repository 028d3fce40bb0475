-- A text's sections by where they begin. In the comments `|` is a tab and `/` a line end.
use Rattle.std.specs.Prelude.{◌≡◌, refl, List, [], ◌∷◌, ℕ}
use Rattle.reorder.specs.Blocks.{only, says_of}
use Rattle.reorder.specs.Sorted.{sort_by, placed}
use Rattle.sorting.specs.Sorting.{earlier, is_header, starts_at, section_bytes, gathered}

-- `B|0/H|0|0|0000|b/V|k|1/D|d/H|1|0|0000|a/`
abbrev text : List ℕ
text =
    66 ∷ 9 ∷ 48 ∷ 10 ∷ 72 ∷ 9 ∷ 48 ∷ 9 ∷ 48 ∷ 9 ∷ 48 ∷ 48 ∷ 48 ∷ 48 ∷ 9 ∷ 98 ∷ 10 ∷ 86 ∷ 9 ∷ 107 ∷ 9 ∷ 49
    ∷ 10 ∷ 68 ∷ 9 ∷ 100 ∷ 10 ∷ 72 ∷ 9 ∷ 49 ∷ 9 ∷ 48 ∷ 9 ∷ 48 ∷ 48 ∷ 48 ∷ 48 ∷ 9 ∷ 97 ∷ 10 ∷ []

sections_begin : starts_at text 0 ≡ 0 ∷ 4 ∷ 23 ∷ 27 ∷ []
unfolding says_of
sections_begin = refl

blocks-sorted : sort_by (earlier text) (only (is_header text) (starts_at text 0)) ≡ 27 ∷ 4 ∷ []
unfolding says_of
blocks-sorted = refl

-- `B|0/H|1|0|0000|a/D|d/H|0|0|0000|b/V|k|1/`
whole : gathered text (placed (is_header text) (27 ∷ 4 ∷ []) (starts_at text 0))
    ≡
    66 ∷ 9 ∷ 48 ∷ 10 ∷ 72 ∷ 9 ∷ 49 ∷ 9 ∷ 48 ∷ 9 ∷ 48 ∷ 48 ∷ 48 ∷ 48 ∷ 9 ∷ 97 ∷ 10 ∷ 68 ∷ 9 ∷ 100 ∷ 10 ∷ 72
    ∷ 9 ∷ 48 ∷ 9 ∷ 48 ∷ 9 ∷ 48 ∷ 48 ∷ 48 ∷ 48 ∷ 9 ∷ 98 ∷ 10 ∷ 86 ∷ 9 ∷ 107 ∷ 9 ∷ 49 ∷ 10 ∷ []
unfolding says_of section_bytes
whole = refl
