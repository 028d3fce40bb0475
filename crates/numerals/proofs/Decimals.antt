-- Laws of numbers in decimal, read. Assumes nothing.
use mathlib.Core.Path.{◌≡◌, refl, sym, ◌∙◌}
use mathlib.Core.Bool.{Bool, true, false, cond}
use mathlib.Core.List.{List, [], ◌∷◌}
use Prim.Native.Nat.{ℕ, ◌+◌, ◌-◌, ◌*◌, ◌^◌, ◌≤◌, ◌<◌}
use native.Mathlib.Omega.{arith}
use lib.ListN.{length, get_or, drop}
use borrow.Author.Tests.{le-leb, lt-leb, eq-eqb, ne_eqb}
use Rattle.laws.proofs.Lists.{next, done}
use Rattle.text.specs.Text.{within, worth, up_to}
use Rattle.text.proofs.Laws.{worth_grows, and_false}
use Rattle.numerals.specs.Numbers.{most, value_of, digits_from}
use Rattle.std.specs.Prelude.{Option, Some, None}

-- ---- read, digit by digit

-- past the limit no digit helps
over : (v : ℕ) (l : List ℕ) → most < v → digits_from v l ≡ None
over v l h = let g : most < worth v l = omega (arith, worth_grows v l) in rw (lt-leb (worth v l) most g, and_false (within 48 57 l))

module _ (s : List ℕ) (v i : ℕ) (inv : digits_from 0 s ≡ digits_from v (drop i s)) where
  pub digits_low : i < length s → get_or s i 0 < 48 → None ≡ digits_from 0 s
  digits_low h l = rw (inv, next s i h, lt-leb _ _ l)

  pub digits_high : i < length s → 48 ≤ get_or s i 0 → 57 < get_or s i 0 → None ≡ digits_from 0 s
  digits_high h l u = rw (inv, next s i h, le-leb _ _ l, lt-leb _ _ u)

  pub digits_more : i < length s → 48 ≤ get_or s i 0 → get_or s i 0 ≤ 57 → digits_from 0 s ≡ digits_from (v * 10 + (get_or s i 0 - 48)) (drop (i + 1) s)
  digits_more h l u = rw (inv, next s i h, le-leb _ _ l, le-leb _ _ u)

  pub digits-past : i < length s → 48 ≤ get_or s i 0 → get_or s i 0 ≤ 57 → (v * 10 < 2 ^ 64 → ⊥) → None ≡ digits_from 0 s
  digits-past h l u o = sym (digits_more h l u ∙ over (v * 10 + (get_or s i 0 - 48)) (drop (i + 1) s) (omega arith))

  pub digits-over : (w : ℕ) → i < length s → 48 ≤ get_or s i 0 → get_or s i 0 ≤ 57 → v * 10 ≡ w → (w + (get_or s i 0 - 48) < 2 ^ 64 → ⊥)
      → None ≡ digits_from 0 s
  digits-over w h l u e o = sym (digits_more h l u ∙ over (v * 10 + (get_or s i 0 - 48)) (drop (i + 1) s) (omega arith))

  pub digits_next : (w r : ℕ) → i < length s → 48 ≤ get_or s i 0 → get_or s i 0 ≤ 57 → v * 10 ≡ w → w + (get_or s i 0 - 48) ≡ r
      → digits_from 0 s ≡ digits_from r (drop (i + 1) s)
  digits_next w r h l u e f = let z : v * 10 + (get_or s i 0 - 48) ≡ r = omega arith in rw z at (digits_more h l u)

  pub digits_done : length s ≤ i → v ≤ most → Some v ≡ digits_from 0 s
  digits_done h u = rw (inv, done s i h, le-leb _ _ u)

-- ---- a number
pub value-empty : (s : List ℕ) → length s ≡ 0 → None ≡ value_of s
value-empty [] e = refl
value-empty (x ∷ xs) e = absurd (omega arith)

pub value-zero : (s : List ℕ) → length s ≡ 1 → get_or s 0 0 ≡ 48 → Some 0 ≡ value_of s
value-zero [] n e = absurd (omega arith)
value-zero (x ∷ []) n e = rw e
value-zero (x ∷ y ∷ ys) n e = absurd (omega arith)

pub value-lead : (s : List ℕ) → (length s ≡ 0 → ⊥) → (length s ≡ 1 → ⊥) → get_or s 0 0 ≡ 48 → None ≡ value_of s
value-lead [] n m e = absurd (n refl)
value-lead (x ∷ []) n m e = absurd (m refl)
value-lead (x ∷ y ∷ ys) n m e = rw (eq-eqb x 48 e)

pub value-digits : (s : List ℕ) (r : Option ℕ) → (length s ≡ 0 → ⊥) → (get_or s 0 0 ≡ 48 → ⊥) → r ≡ digits_from 0 s → r ≡ value_of s
value-digits [] r n e d = absurd (n refl)
value-digits (x ∷ []) r n e d = d
value-digits (x ∷ y ∷ ys) r n e d = rw (ne_eqb x 48 e) d

-- what the answer says of the bytes
module _ (s : List ℕ) (r : Option ℕ) (reads : r ≡ value_of s) where
  by_test : (t : Bool) → up_to most s ≡ t → value_of s ≡ cond t (Some (worth 0 s)) None
  by_test t e = rw e

  pub value_is : (v : ℕ) → r ≡ Some v → (up_to most s ≡ true) × (v ≡ worth 0 s)
  value_is v q = go (up_to most s) refl
    where
      go : (t : Bool) → up_to most s ≡ t → (t ≡ true) × (v ≡ worth 0 s)
      go true e = let z : Some v ≡ Some (worth 0 s) = sym q ∙ reads ∙ by_test true e in (refl, cc)
      go false e = let z : Some v ≡ None = sym q ∙ reads ∙ by_test false e in absurd (let w : ◌≡◌ {A = ℕ} 0 1 = cc in omega arith)

  pub value_not : r ≡ None → up_to most s ≡ false
  value_not q = go (up_to most s) refl
    where
      go : (t : Bool) → up_to most s ≡ t → t ≡ false
      go true e = let z : None ≡ Some (worth 0 s) = sym q ∙ reads ∙ by_test true e in absurd (let w : ◌≡◌ {A = ℕ} 0 1 = cc in omega arith)
      go false e = refl

pub ruleset laws = (
  digits_low,
  digits_high,
  digits_more,
  digits-past,
  digits-over,
  digits_next,
  digits_done,
  value-empty,
  value-zero,
  value-lead,
  value-digits,
)
