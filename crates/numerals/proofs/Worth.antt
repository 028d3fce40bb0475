-- A number in decimal is worth that number, as definition texts read it (T7). Assumes nothing.
use mathlib.Core.Path.{◌≡◌, refl}
use mathlib.Core.Bool.{Bool, true, false, cond, ◌&&◌}
use mathlib.Core.List.{List, [], ◌∷◌, ◌++◌}
use Prim.Native.Nat.{ℕ, zero, suc, ◌+◌, ◌-◌, ◌*◌, ◌/◌, ◌%◌, ◌^◌, ◌<◌}
use native.Mathlib.Nat.{pow-suc, pow-zero}
use native.Mathlib.Omega.{arith}
use lib.Dec.{eqb}
use borrow.Author.Tests.{eqb-true, lt-ltb}
use Rattle.laws.proofs.Bools.{and_left}
use Rattle.text.specs.Text.{worth}
use Rattle.numerals.specs.Numerals.{capital, glyph, spelled, decimal}

worth-append : (v : ℕ) (a b : List ℕ) → worth v (a ++ b) ≡ worth (worth v a) b
worth-append v [] b = refl
worth-append v (x ∷ a) b = worth-append (v * 10 + (x - 48)) a b

spelled-worth : (most least n : ℕ) → n < 10 ^ most → worth 0 (spelled 10 capital most least n) ≡ n
unfolding spelled
spelled-worth zero least n h = omega (arith, rw pow-zero at h)
spelled-worth (suc most) least n h =
    go (eqb n 0 && eqb least 0) refl (spelled-worth most (least - 1) (n / 10) (omega (arith, rw pow-suc at h)))
  where
    go : (e : Bool) → eqb n 0 && eqb least 0 ≡ e → worth 0 (spelled 10 capital most (least - 1) (n / 10)) ≡ n / 10
        → worth 0 (cond e [] (spelled 10 capital most (least - 1) (n / 10) ++ (glyph capital (n % 10) ∷ []))) ≡ n
    go true q i = let z : n ≡ 0 = eqb-true n 0 (and_left (eqb n 0) (eqb least 0) q) in omega arith
    go false q i =
        rw (worth-append 0 (spelled 10 capital most (least - 1) (n / 10)) (glyph capital (n % 10) ∷ []), i, lt-ltb (n % 10) 10 (omega arith)) (omega arith)

pub decimal-worth : (n : ℕ) → n < 2 ^ 64 → worth 0 (decimal n) ≡ n
decimal-worth n h = spelled-worth 20 1 n (omega arith)
