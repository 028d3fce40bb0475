-- What a division leaves: there is only one such, and long division finds it. Assumes nothing.
use mathlib.Core.Path.{◌≡◌, refl, sym, ap, ap₂, ◌∙◌}
use mathlib.Core.List.{List}
use Prim.Native.Nat.{ℕ, zero, suc, ◌+◌, ◌*◌, ◌/◌, ◌^◌, ◌<◌}
use native.Mathlib.Nat.{add-zero, add-suc, pow-suc, mul_comm, div-lt_iff_lt-mul, mul-div_cancel, div-eq_of_lt, div-div-eq-div-mul, zero-mul, one-mul}
use native.Mathlib.Omega.{arith}
use lib.ListN.{length}
use lib.Pow.{pow_pos, pow-add, shl_lt}
use Rattle.bits.specs.Bits.{bits_at}
use Rattle.bits.proofs.BitLaws.{bits_lt}
use Rattle.crc.specs.Poly.{plus, times, Leaves, divided}
use Rattle.crc.specs.Crc.{generator, dividend, IsCrc, crc}
use Rattle.crc.proofs.Sums.{sums, zero-plus, plus_self, plus_shr, plus-lt, eq_of_zero, across}
use Rattle.crc.proofs.Products.{times_zero, times_power, times-plus, times_small}

twice : (a b : ℕ) → a ≡ plus (plus a b) b
twice a b = simp sums

swap : (a b c : ℕ) → plus (plus a b) c ≡ plus (plus a c) b
swap a b c = simp sums

-- by any g of degree k
module _ (k g : ℕ) (lead : g / 2 ^ k ≡ 1) where
  pub leaves_one : (p r r' : ℕ) → Leaves k g p r → Leaves k g p r' → r ≡ r'
  leaves_one p r r' d d' =
      let s : times (plus d.quotient d'.quotient) g ≡ plus r r' =
      times-plus g d.quotient d'.quotient ∙ across (times d.quotient g) r (times d'.quotient g) r' (sym d.equation ∙ d'.equation) in
      eq_of_zero r r' (sym s ∙ times_small g k lead (plus d.quotient d'.quotient) (rw s (plus-lt k r r' d.small d'.small)))

  -- the highest term is gone
  top_gone : (n p t : ℕ) → p / 2 ^ (k + n) ≡ t → t < 2 → plus p (t * (g * 2 ^ n)) < 2 ^ (k + n)
  top_gone n p t e h =
      let one : g * 2 ^ n / 2 ^ (k + n) ≡ 1 =
      (rw (pow-add 2 k n, mul_comm (2 ^ k) (2 ^ n), ← div-div-eq-div-mul (g * 2 ^ n) (2 ^ n) (2 ^ k), mul-div_cancel g (pow_pos n)) lead) in
      let z : plus p (t * (g * 2 ^ n)) / 2 ^ (k + n) ≡ 0 = plus_shr p (t * (g * 2 ^ n)) (k + n) ∙ (rw e (go t h one)) in
      rw (← one-mul (2 ^ (k + n))) ((div-lt_iff_lt-mul (pow_pos (k + n))).0 (omega arith))
    where
      go : (t : ℕ) → t < 2 → g * 2 ^ n / 2 ^ (k + n) ≡ 1 → plus t (t * (g * 2 ^ n) / 2 ^ (k + n)) ≡ 0
      go zero h one = rw (zero-mul (g * 2 ^ n), div-eq_of_lt (pow_pos (k + n)), zero-plus 0)
      go (suc zero) h one = rw (one-mul (g * 2 ^ n), one) (plus_self 1)
      go (suc (suc t)) h one = absurd (omega arith)

  pub divided_leaves : (n p : ℕ) → p < 2 ^ (k + n) → Leaves k g p (divided k g n p)
  divided_leaves zero p h = record { quotient = 0; equation = rw (times_zero g, zero-plus p); small = rw (add-zero k) at h }
  divided_leaves (suc n) p h =
      let t = p / 2 ^ (k + n) in
      let b : t < 2 = (div-lt_iff_lt-mul (pow_pos (k + n))).1 (rw (mul_comm 2 (2 ^ (k + n)), ← pow-suc 2 (k + n), ← add-suc k n) h) in
      let d = divided_leaves n (plus p (t * (g * 2 ^ n))) (top_gone n p t refl b) in
      record {
        quotient = plus d.quotient (t * 2 ^ n);
        equation =
            twice p (t * (g * 2 ^ n))
            ∙ ap₂ plus d.equation (sym (go t b))
            ∙ swap (times d.quotient g) (divided k g (suc n) p) (times (t * 2 ^ n) g)
            ∙ ap (λ x. plus x (divided k g (suc n) p)) (sym (times-plus g d.quotient (t * 2 ^ n)));
        small = d.small;
      }
    where
      go : (t : ℕ) → t < 2 → times (t * 2 ^ n) g ≡ t * (g * 2 ^ n)
      go zero h = rw (zero-mul (2 ^ n), zero-mul (g * 2 ^ n), times_zero g)
      go (suc zero) h = rw (one-mul (2 ^ n), one-mul (g * 2 ^ n), times_power g n)
      go (suc (suc t)) h = absurd (omega arith)

-- ---- so every message has its CRC, and no other
pub crc_is : (m : List ℕ) → IsCrc m (crc m)
unfolding dividend crc
crc_is m =
    let n = 8 * length m in
    let c : 8 * length m + 16 ≡ 16 + 8 * length m = omega arith in
    let a : bits_at m 0 n * 2 ^ 16 < 2 ^ (16 + n) = rw (← c) (shl_lt n 16 (bits_lt m 0 n)) in
    let b : 0x1D0F * 2 ^ n < 2 ^ (16 + n) = shl_lt {a = 0x1D0F} 16 n (omega arith) in
    divided_leaves 16 generator refl n (dividend m) (plus-lt (16 + n) (bits_at m 0 n * 2 ^ 16) (0x1D0F * 2 ^ n) a b)

pub crc-only : (m : List ℕ) (r : ℕ) → IsCrc m r → r ≡ crc m
crc-only m r d = leaves_one 16 generator refl (dividend m) r (crc m) d (crc_is m)
