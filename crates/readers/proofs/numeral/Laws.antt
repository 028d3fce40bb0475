-- The laws that the proofs of this crate's functions go by. Assumes nothing.
use mathlib.Core.Bool.{true, false}
use mathlib.Core.Path.{◌≡◌, refl, ◌∙◌}
use mathlib.Core.List.{List, [], ◌∷◌}
use Prim.Native.Nat.{ℕ, ◌+◌, ◌-◌, ◌*◌, ◌≤◌, ◌<◌}
use native.Mathlib.Omega.{arith}
use lib.Dec.{eqb}
use lib.ListN.{length, get_or, drop}
use borrow.Author.Tests.{lt-ltb, le-ltb, le-leb, lt-leb}
use Rattle.text.specs.Text.{worth, up_to, value, number}
use Rattle.text.specs.declared.Number.{Number}
use Rattle.text.specs.declared.Number.TheVariants.{Is as Says, Over, Not as Silent}
use Rattle.text.proofs.Laws.{next, done, worth_grows, and_false, up_to_is, up_to_over, up_to_not, value_is}
use Rattle.readers.specs.Numeral.{typed, numeral_of, says}
use Rattle.std.specs.Prelude.{Some, None}

-- ---- digit by digit: those from i on, after digits that are worth v
pub record Typing (s : List ℕ) (v i : ℕ) : Type 0 where
  pub few : v < 10000000000000000000
  pub says : numeral_of s ≡ typed v (drop i s)

pub typing_none : (s : List ℕ) → length s ≡ 0 → None ≡ numeral_of s
typing_none [] e = refl
typing_none (x ∷ xs) e = absurd (omega arith)

pub typing_start : (s : List ℕ) → (length s ≡ 0 → ⊥) → Typing s 0 0
typing_start [] some = absurd (some refl)
typing_start (x ∷ xs) some = record { few = omega arith; says = refl }

module _ (s : List ℕ) (v i : ℕ) (so_far : Typing s v i) where
  pub typing_low : i < length s → get_or s i 0 < 48 → None ≡ numeral_of s
  typing_low h l = rw (so_far.says, next s i h, lt-leb _ _ l)

  pub typing_high : i < length s → 48 ≤ get_or s i 0 → 57 < get_or s i 0 → None ≡ numeral_of s
  typing_high h l u = rw (so_far.says, next s i h, le-leb _ _ l, lt-leb _ _ u)

  pub typing_great : i < length s → 48 ≤ get_or s i 0 → get_or s i 0 ≤ 57 → 1000000000000000000 ≤ v → None ≡ numeral_of s
  typing_great h l u m =
      let w : 10000000000000000000 ≤ worth (v * 10 + (get_or s i 0 - 48)) (drop (i + 1) s) =
      omega (arith, worth_grows (v * 10 + (get_or s i 0 - 48)) (drop (i + 1) s)) in
      rw (so_far.says, next s i h, le-leb _ _ l, le-leb _ _ u, le-ltb _ _ w, and_false)

  pub typing_more : i < length s → 48 ≤ get_or s i 0 → get_or s i 0 ≤ 57 → v < 1000000000000000000 → Typing s (v * 10 + (get_or s i 0 - 48)) (i + 1)
  typing_more h l u m = record {
    few = omega arith;
    says = so_far.says ∙ rw (next s i h, le-leb _ _ l, le-leb _ _ u);
  }

  pub typing_done : length s ≤ i → Some v ≡ numeral_of s
  typing_done h = rw (so_far.says, done s i h, lt-ltb _ _ so_far.few)

pub ruleset typing_laws = (typing_none, typing_start, typing_low, typing_high, typing_great, typing_more, typing_done)

-- ---- the number of a field
module _ (s : List ℕ) (n : ℕ) (r : Number) (is : r ≡ number 255 s) where
  pub says_is : (m : ℕ) → r ≡ Says m → eqb m n ≡ says n s
  says_is m q =
      let u : true ≡ up_to 255 s = up_to_is 255 s r is m q in
      let v : m ≡ value 255 s = value_is 255 s r is m q in
      rw (v, ← u)

  pub says-over : r ≡ Over → false ≡ says n s
  says-over q = rw (← up_to_over 255 s r is q)

  pub says-not : r ≡ Silent → false ≡ says n s
  says-not q = rw (← up_to_not 255 s r is q)

pub ruleset says_laws = (says_is, says-over, says-not)
