-- Laws of a signed number and the byte that is its two's complement. Assumes nothing.
use mathlib.Core.Path.{◌≡◌, refl, sym, ap, ◌∙◌}
use mathlib.Core.Bool.{true, false}
use Prim.Native.Nat.{ℕ, suc, ◌-◌, ◌≤◌, ◌<◌}
use native.Mathlib.Omega.{arith}
use lib.Dec.{T}
use lib.IntN.{ℤ, pos, negsuc, nat_abs}
use lib.Signed.{lt_z, non_neg}
use mir.Syntax.{w8, w16}
use mir.Val.{Fits, SFits, to_z, of_z}
use mir.Facts.{to_z-of_z}
use borrow.Author.Tests.{lt-ltb, ltb-true}

small : (n : ℕ) → n < 128 → to_z w8 n ≡ pos n
small n h = rw (lt-ltb n 128 h) refl

-- what is known of a negative number -(n + 1): its bits are 255 - n
record Below (x : ℤ) : Type 0 where
  n : ℕ
  low : n < 128
  bits : of_z w8 x ≡ 255 - n
  flipped : to_z w8 (255 - of_z w8 x) ≡ pos n

below : (x : ℤ) → SFits w8 x → lt_z (to_z w8 (of_z w8 x)) (pos 0) ≡ true → Below x
below (pos n) fits h =
    let l : n < 128 = fits.sfits in
    absurd (omega (arith, ltb-true n 0 (rw (small n l) at h)))
below (negsuc n) fits h =
    let l : n < 128 = fits.sfits in
    let e : 256 - suc n ≡ 255 - n = omega arith in
    let f : 255 - (256 - suc n) ≡ n = omega arith in
    record { n = n; low = l; bits = e; flipped = ap (to_z w8) f ∙ small n l }

-- and of another: its bits are itself
above : (x : ℤ) → SFits w8 x → lt_z (to_z w8 (of_z w8 x)) (pos 0) ≡ false → (of_z w8 x < 128) × (to_z w8 (of_z w8 x) ≡ pos (of_z w8 x))
above (pos n) fits h = (fits.sfits, small n fits.sfits)
above (negsuc n) fits h =
    let l : n < 128 = fits.sfits in
    let e : to_z w8 (of_z w8 (negsuc n)) ≡ negsuc n = to_z-of_z {w = w8} {z = negsuc n} fits in
    absurd (let z : true ≡ false = rw e at h in let y : ◌≡◌ {A = ℕ} 0 1 = cc in omega arith)

module _ (x : ℤ) (fits : SFits w8 x) (test : lt_z (to_z w8 (of_z w8 x)) (pos 0) ≡ true) where
  pub flip_positive : T (non_neg (to_z w8 (255 - of_z w8 x)))
  flip_positive = let b = below x fits test in rw b.flipped tt

  pub flip_fits : Fits w16 (nat_abs (to_z w8 (255 - of_z w8 x)))
  flip_fits = let b = below x fits test in rw b.flipped (omega (arith, b.low))

  pub flip_small : nat_abs (to_z w8 (255 - of_z w8 x)) ≤ 255
  flip_small = let b = below x fits test in rw b.flipped (omega (arith, b.low))

  pub flip_back : 255 - nat_abs (to_z w8 (255 - of_z w8 x)) ≡ of_z w8 x
  flip_back = let b = below x fits test in rw b.flipped (sym b.bits)

module _ (x : ℤ) (fits : SFits w8 x) (test : lt_z (to_z w8 (of_z w8 x)) (pos 0) ≡ false) where
  pub plain_positive : T (non_neg (to_z w8 (of_z w8 x)))
  plain_positive = let a = above x fits test in rw a.1 tt

  pub plain_fits : Fits w16 (nat_abs (to_z w8 (of_z w8 x)))
  plain_fits = let a = above x fits test in rw a.1 (omega (arith, a.0))

  pub plain_byte : nat_abs (to_z w8 (of_z w8 x)) ≡ of_z w8 x
  plain_byte = rw (above x fits test).1 refl

-- ---- and of the number that a byte stands for
pub negative : (byte : ℕ) → Fits w8 byte → to_z w8 (255 - (255 - byte)) ≡ to_z w8 byte
negative byte fits = let e : 255 - (255 - byte) ≡ byte = omega arith in ap (to_z w8) e

pub ruleset rssi_laws = (negative, flip_positive, flip_fits, flip_small, flip_back, plain_positive, plain_fits, plain_byte)
