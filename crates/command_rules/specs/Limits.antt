-- T32, T33 (docs/RULES.md): where the entries of a definition stand, and what a limit means for the rows of a Q.
use Rattle.std.specs.Prelude.{ℕ, suc, ◌≤◌, Bool, true, false, cond, List, [], ◌∷◌}
use Rattle.command_text.specs.Form.{Record, param, group, item, variant, array, bit_flag, bit_field, const, bitmask}
use Rattle.command_class.specs.Definition.{Item, Parameter, Entry, single, repeated}

-- is it a T or S line
abbrev pub is_bits : Record → Bool
is_bits (param q) = false
is_bits (group g) = false
is_bits (item (variant s)) = false
is_bits (item (array length ascii)) = false
is_bits (item (bit_flag mask name)) = true
is_bits (item (bit_field b)) = true
is_bits (item (const value name)) = false
is_bits (item (bitmask length)) = false

-- how many T and S lines there are
abbrev pub count_bits : List Item → ℕ
count_bits [] = 0
count_bits (i ∷ is) = cond (is_bits i.says) (suc (count_bits is)) (count_bits is)

-- T33: a Q has at most 32 items, so at most 32 T and S lines
abbrev pub Small : Parameter → Type 0
Small q = count_bits q.items ≤ 32

unfoldable pub SmallAll : List Parameter → Type 0
SmallAll [] = Unit {0}
SmallAll (q ∷ qs) = Small q × SmallAll qs

unfoldable pub SmallEntries : List Entry → Type 0
SmallEntries [] = Unit {0}
SmallEntries (single q ∷ ds) = Small q × SmallEntries ds
SmallEntries (repeated line g qs ∷ ds) = SmallAll qs × SmallEntries ds

-- T32: the entries stand on lines that rise, from this one on
abbrev pub Lined : ℕ → List Entry → Type 0
Lined low [] = Unit {0}
Lined low (single q ∷ ds) = (low ≤ q.line) × Lined (suc q.line) ds
Lined low (repeated line g qs ∷ ds) = (low ≤ line) × Lined (suc line) ds
