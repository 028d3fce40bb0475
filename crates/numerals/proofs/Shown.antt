-- A number in decimal is what a definition text prints for it (T7). Assumes nothing.
use mathlib.Core.Path.{◌≡◌, refl}
use mathlib.Core.Bool.{Bool, true, false, cond}
use mathlib.Core.List.{[], ◌∷◌, ◌++◌}
use Prim.Native.Nat.{ℕ, zero, suc, ◌+◌, ◌*◌, ◌/◌, ◌%◌, ◌^◌, ◌≤◌, ◌<◌}
use native.Mathlib.Nat.{div-add-mod', pow-suc}
use native.Mathlib.Omega.{arith}
use lib.Dec.{eqb, ltb}
use borrow.Author.Tests.{lt-ltb, le-ltb, ne_eqb, ltb-true, ltb-false}
use Rattle.text.specs.Print.{digits_in, shown}
use Rattle.text.proofs.Laws.{and_false}
use Rattle.numerals.specs.Numerals.{capital, spelled, decimal}

-- ---- what is printed, the last digit first
digits_same : (k m n : ℕ) → n < k → n < m → digits_in k n ≡ digits_in m n
digits_same zero m n h g = absurd (omega arith)
digits_same (suc k) zero n h g = absurd (omega arith)
digits_same (suc k) (suc m) n h g = go (ltb n 10) refl (digits_same k m (n / 10))
  where
    parts : n / 10 * 10 + n % 10 ≡ n
    parts = div-add-mod' n 10

    go : (b : Bool) → ltb n 10 ≡ b → (n / 10 < k → n / 10 < m → digits_in k (n / 10) ≡ digits_in m (n / 10))
        → cond b ((48 + n) ∷ []) (digits_in k (n / 10) ++ ((48 + n % 10) ∷ []))
        ≡ cond b ((48 + n) ∷ []) (digits_in m (n / 10) ++ ((48 + n % 10) ∷ []))
    go true q ih = refl
    go false q ih =
        let l : 10 ≤ n = ltb-false n 10 q in
        rw (ih (omega (arith, parts)) (omega (arith, parts))) refl

shown_one : (n : ℕ) → n < 10 → shown n ≡ (48 + n) ∷ []
unfolding shown
shown_one n h = rw (lt-ltb n 10 h)

shown-more : (n : ℕ) → 10 ≤ n → shown n ≡ shown (n / 10) ++ ((48 + n % 10) ∷ [])
unfolding shown
shown-more n h =
    let parts : n / 10 * 10 + n % 10 ≡ n = div-add-mod' n 10 in
    rw (le-ltb n 10 h, digits_same n (suc (n / 10)) (n / 10) (omega arith) (omega arith))

-- ---- what is spelled
spelled_none : (m : ℕ) → spelled 10 capital m 0 0 ≡ []
unfolding spelled
spelled_none zero = refl
spelled_none (suc m) = refl

-- a number that is not 0 has a digit
spelled_some : (m n : ℕ) → 1 ≤ n → spelled 10 capital m 0 n ≡ spelled 10 capital m 1 n
unfolding spelled
spelled_some zero n h = refl
spelled_some (suc m) n h = rw (ne_eqb n 0 (λ e. omega arith))

spelled-last : (m n : ℕ) → spelled 10 capital (suc m) 1 n ≡ spelled 10 capital m 0 (n / 10) ++ ((48 + n % 10) ∷ [])
unfolding spelled
spelled-last m n = rw (and_false (eqb n 0), lt-ltb (n % 10) 10 (omega arith))

one_digit : (m n : ℕ) → n < 10 → spelled 10 capital (suc m) 1 n ≡ shown n
one_digit m n l =
    let parts : n / 10 * 10 + n % 10 ≡ n = div-add-mod' n 10 in
    let d : n / 10 ≡ 0 = omega arith in
    let r : n % 10 ≡ n = omega arith in
    rw (spelled-last m n, d, r, spelled_none m, shown_one n l)

spelled-shown : (m n : ℕ) → n < 10 ^ suc m → spelled 10 capital (suc m) 1 n ≡ shown n
spelled-shown zero n h = one_digit 0 n (omega arith)
spelled-shown (suc m) n h = go (ltb n 10) refl (spelled-shown m (n / 10))
  where
    parts : n / 10 * 10 + n % 10 ≡ n
    parts = div-add-mod' n 10

    go : (b : Bool) → ltb n 10 ≡ b → (n / 10 < 10 ^ suc m → spelled 10 capital (suc m) 1 (n / 10) ≡ shown (n / 10))
        → spelled 10 capital (suc (suc m)) 1 n ≡ shown n
    go true q ih = one_digit (suc m) n (ltb-true n 10 q)
    go false q ih =
        let l : 10 ≤ n = ltb-false n 10 q in
        let less : n / 10 < 10 ^ suc m = omega (arith, parts, rw pow-suc at h) in
        rw (spelled-last (suc m) n, shown-more n l, spelled_some (suc m) (n / 10) (omega (arith, parts)), ih less)

pub decimal-shown : (n : ℕ) → n < 2 ^ 64 → decimal n ≡ shown n
decimal-shown n h = spelled-shown 19 n (omega arith)
