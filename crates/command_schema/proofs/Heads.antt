-- The Qs and Gs of a text, one after the other, make up its definition. Assumes nothing.
use mathlib.Core.Path.{◌≡◌, refl, ap}
use mathlib.Core.Bool.{cond}
use mathlib.Core.List.{List, [], ◌∷◌}
use Prim.Native.Nat.{ℕ, suc, ◌≤◌}
use native.Mathlib.Omega.{arith}
use lib.Dec.{eqb}
use lib.ListN.{length}
use Rattle.text.specs.Text.{lines}
use Rattle.text.specs.Records.{records}
use Rattle.command_text.specs.Form.{Record, param, group, item, variant, array, bit_flag, bit_field, const, bitmask, form}
use Rattle.command_text.specs.Rules.{count, items}
use Rattle.command_class.specs.Definition.{Parameter, Entry, single, numbered, under, members_at, entries_at, definition}
use Rattle.command_class.specs.Limits.{FewUnderEach}
use Rattle.command_schema.specs.Heads.{heads, heads_of, members_of, entries_of}
use Rattle.command_schema.specs.Loaded.{SmallHeads}
use Rattle.command_rules.specs.Limits.{count_bits}

heads-members : (n : ℕ) (rs : List Record) → members_at n rs ≡ members_of (heads (numbered n rs))
unfolding heads members_of
heads-members n [] = refl
heads-members n (param q ∷ rs) = ap (λ (ps : List Parameter). cond (eqb q.level 1)
    (record { line = n; says = q; items = under (numbered (suc n) rs) } ∷ ps) []) (heads-members (suc n) rs)
heads-members n (group g ∷ rs) = refl
heads-members n (item d ∷ rs) = heads-members (suc n) rs

heads-entries : (n : ℕ) (rs : List Record) → entries_at n rs ≡ entries_of (heads (numbered n rs))
unfolding heads entries_of
heads-entries n [] = refl
heads-entries n (param q ∷ rs) =
    ap (λ (ds : List Entry). cond (eqb q.level 0) (single (record { line = n; says = q; items = under (numbered (suc n) rs) }) ∷ ds) ds)
    (heads-entries (suc n) rs)
heads-entries n (group g ∷ rs) =
    let ms = heads-members (suc n) rs in
    let ds = heads-entries (suc n) rs in
    rw (ms, ds) refl
heads-entries n (item d ∷ rs) = heads-entries (suc n) rs

-- the definition of a text
pub definition-heads : (t : List ℕ) → definition t ≡ entries_of (heads_of t)
definition-heads t = heads-entries 1 (records form (lines t))

-- how many there are
pub heads-count : (n : ℕ) (rs : List Record) → length (heads (numbered n rs)) ≡ count rs
unfolding heads
heads-count n [] = refl
heads-count n (param q ∷ rs) = ap suc (heads-count (suc n) rs)
heads-count n (group g ∷ rs) = ap suc (heads-count (suc n) rs)
heads-count n (item d ∷ rs) = heads-count (suc n) rs

-- how many T and S lines stand under each
bits_under : (n : ℕ) (rs : List Record) → count_bits (under (numbered n rs)) ≤ items rs
bits_under n [] = omega arith
bits_under n (param q ∷ rs) = omega arith
bits_under n (group g ∷ rs) = omega arith
bits_under n (item (variant s) ∷ rs) = let h = bits_under (suc n) rs in omega arith
bits_under n (item (array l a) ∷ rs) = let h = bits_under (suc n) rs in omega arith
bits_under n (item (bit_flag m l) ∷ rs) = let h = bits_under (suc n) rs in omega arith
bits_under n (item (bit_field b) ∷ rs) = let h = bits_under (suc n) rs in omega arith
bits_under n (item (const v l) ∷ rs) = let h = bits_under (suc n) rs in omega arith
bits_under n (item (bitmask l) ∷ rs) = let h = bits_under (suc n) rs in omega arith

pub heads_small : (n : ℕ) (rs : List Record) → FewUnderEach rs → SmallHeads (heads (numbered n rs))
unfolding heads SmallHeads
heads_small n [] few = tt
heads_small n (param q ∷ rs) few = (let h = bits_under (suc n) rs in let f = few.0 refl in omega arith, heads_small (suc n) rs few.1)
heads_small n (group g ∷ rs) few = (tt, heads_small (suc n) rs few.1)
heads_small n (item d ∷ rs) few = heads_small (suc n) rs few.1
