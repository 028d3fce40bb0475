-- Laws of bit children. Assumes nothing.
use mathlib.Core.Path.{◌≡◌, refl, ap}
use mathlib.Core.List.{List, [], ◌∷◌}
use Prim.Native.Nat.{ℕ, suc}
use lib.ListN.{length}
use Rattle.command_text.specs.Form.{Record, param, group, item, variant, array, bit_flag, bit_field, const, bitmask}
use Rattle.command_class.specs.Definition.{Item, of_item}
use Rattle.command_rules.specs.Param.{bit_value, bit_onto, bit_rows}
use Rattle.command_rules.specs.Limits.{count_bits}

-- the children of a byte are as many as the T and S lines
pub bits_count : (b parent start : ℕ) (is : List Item) → length (bit_rows b parent start is) ≡ count_bits is
unfolding bit_rows
bits_count b parent start [] = refl
bits_count b parent start (i ∷ is) = go i.says (bits_count b parent start is)
  where
    go : (x : Record) → length (bit_rows b parent start is) ≡ count_bits is
        → length (bit_onto i.line parent start (of_item (bit_value b) x) (bit_rows b parent start is))
        ≡ count_bits (record { line = i.line; says = x } ∷ is)
    go (param q) ih = ih
    go (group g) ih = ih
    go (item (variant v)) ih = ih
    go (item (array n a)) ih = ih
    go (item (bit_flag m n)) ih = ap suc ih
    go (item (bit_field f)) ih = ap suc ih
    go (item (const v n)) ih = ih
    go (item (bitmask n)) ih = ih
