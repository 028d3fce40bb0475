-- Products of polynomials over the field of two elements. Assumes nothing.
use mathlib.Core.Path.{◌≡◌, refl, sym, ap, ◌∙◌}
use Prim.Native.Nat.{ℕ, zero, suc, ◌*◌, ◌/◌, ◌%◌, ◌^◌, ◌≤◌, ◌<◌}
use native.Mathlib.Decide.{le_ind}
use native.Mathlib.Nat.{not-suc-le-zero, le_refl, zero-mul, one-mul, mul-one, mul_assoc, pow-suc, div-eq_of_lt, div-lt_iff_lt-mul}
use native.Mathlib.Omega.{arith}
use lib.Arith.{bin_ind, half_le}
use lib.Bits.{differ}
use lib.Pow.{pow_pos}
use Rattle.crc.specs.Poly.{plus, times_for, times}
use Rattle.crc.proofs.Sums.{sums, plus-zero, zero-plus, plus_self, plus-half, plus-low, plus-shift, plus_shr, eq_of_zero}

module _ (g : ℕ) where
  more : (n p : ℕ) → p ≤ n → times_for (suc n) p g ≡ times_for n p g
  more zero zero h = refl
  more zero (suc p) h = absurd (not-suc-le-zero h)
  more (suc n) zero h = refl
  more (suc n) (suc p) h = ap (λ x. plus (x * 2) (suc p % 2 * g)) (more n (suc p / 2) (half_le h))

  enough : (n p : ℕ) → p ≤ n → times_for n p g ≡ times_for p p g
  enough n p h = le_ind (λ (m : ℕ). times_for m p g ≡ times_for p p g) refl (λ m k e. more m p k ∙ e) n h

  pub times_zero : times 0 g ≡ 0
  unfolding times
  times_zero = refl

  pub times_step : (p : ℕ) → times p g ≡ plus (times (p / 2) g * 2) (p % 2 * g)
  unfolding times plus
  times_step zero = rw (zero-mul g)
  times_step (suc p) = ap (λ x. plus (x * 2) (suc p % 2 * g)) (enough p (suc p / 2) (half_le (le_refl (suc p))))

  pub times_one : times 1 g ≡ g
  times_one = times_step 1 ∙ rw (times_zero, one-mul g, zero-plus g)

  pub times_double : (p : ℕ) → times (p * 2) g ≡ times p g * 2
  times_double p =
      let h : p * 2 / 2 ≡ p = omega arith in
      let l : p * 2 % 2 ≡ 0 = omega arith in
      times_step (p * 2) ∙ rw (h, l, zero-mul g, plus-zero (times p g * 2))

  digit : (x y : ℕ) → x < 2 → y < 2 → differ x y * g ≡ plus (x * g) (y * g)
  digit zero y h l = rw (zero-mul g, zero-plus (y * g))
  digit (suc x) zero h l = rw (zero-mul g, plus-zero (suc x * g))
  digit (suc zero) (suc zero) h l = rw (plus_self (1 * g), zero-mul g)
  digit (suc zero) (suc (suc y)) h l = absurd (omega arith)
  digit (suc (suc x)) (suc y) h l = absurd (omega arith)

  pub times-plus : (p q : ℕ) → times (plus p q) g ≡ plus (times p g) (times q g)
  times-plus =
      bin_ind (λ (n : ℕ). (q : ℕ) → times (plus n q) g ≡ plus (times n g) (times q g)) (λ q. rw (zero-plus q, times_zero, zero-plus (times q g)))
      (λ n ih q.
      rw (
        times_step (plus n q),
        plus-half n q,
        plus-low n q,
        ih (q / 2),
        digit (n % 2) (q % 2) (omega arith) (omega arith),
        ← plus-shift 1 (times (n / 2) g) (times (q / 2) g),
        times_step n,
        times_step q,
      ) (simp sums))

  -- x ^ k times g is g shifted by k
  pub times_power : (k : ℕ) → times (2 ^ k) g ≡ g * 2 ^ k
  times_power zero = times_one ∙ sym (mul-one g)
  times_power (suc k) = rw (pow-suc 2 k, times_double (2 ^ k), times_power k) (mul_assoc g (2 ^ k) 2)

  -- a product of degree below that of g is 0
  pub times_small : (k : ℕ) → g / 2 ^ k ≡ 1 → (p : ℕ) → times p g < 2 ^ k → times p g ≡ 0
  times_small k lead =
      bin_ind (λ (n : ℕ). times n g < 2 ^ k → times n g ≡ 0) (λ h. times_zero) (λ n ih h. go n (n % 2) refl (omega arith) ih h)
    where
      go : (n b : ℕ) → n % 2 ≡ b → b < 2 → (times (n / 2) g < 2 ^ k → times (n / 2) g ≡ 0) → times n g < 2 ^ k → times n g ≡ 0
      go n zero e l ih h =
          let s : times n g ≡ times (n / 2) g * 2 = times_step n ∙ rw (e, zero-mul g, plus-zero (times (n / 2) g * 2)) in
          let z = ih (omega arith) in
          omega arith
      go n (suc zero) e l ih h =
          let s : times n g ≡ plus (times (n / 2) g * 2) g = times_step n ∙ rw (e, one-mul g) in
          let top : plus (times (n / 2) g * 2 / 2 ^ k) 1 ≡ 0 = rw (← lead, ← plus_shr (times (n / 2) g * 2) g k, ← s) (div-eq_of_lt h) in
          let one : times (n / 2) g * 2 / 2 ^ k ≡ 1 = eq_of_zero (times (n / 2) g * 2 / 2 ^ k) 1 top in
          let lt : times (n / 2) g * 2 < 2 * 2 ^ k = (div-lt_iff_lt-mul (pow_pos k)).0 (omega arith) in
          let z = ih (omega arith) in
          let w : times (n / 2) g * 2 / 2 ^ k ≡ 0 = rw z (div-eq_of_lt (pow_pos k)) in
          absurd (omega arith)
      go n (suc (suc b)) e l ih h = absurd (omega arith)
