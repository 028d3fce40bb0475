-- Sums of polynomials over the field of two elements. Assumes nothing.
use mathlib.Core.Path.{◌≡◌, refl, sym, ap, ◌∙◌}
use Prim.Native.Nat.{ℕ, zero, suc, ◌+◌, ◌*◌, ◌/◌, ◌%◌, ◌^◌, ◌<◌}
use native.Mathlib.Nat.{add-zero}
use native.Mathlib.Omega.{arith}
use lib.Arith.{bin_ind, digits_mod, digits_div}
use lib.Bits as B
use lib.Bits.{differ}
use lib.Pow.{pow_pos}
use Rattle.crc.specs.Poly.{plus}

pub plus_comm : (a b : ℕ) → plus a b ≡ plus b a
unfolding plus
plus_comm a b = B.xor_comm a b

pub plus-zero : (a : ℕ) → plus a 0 ≡ a
unfolding plus
plus-zero a = B.xor_zero_r a

pub zero-plus : (a : ℕ) → plus 0 a ≡ a
unfolding plus
zero-plus a = refl

pub plus_self : (a : ℕ) → plus a a ≡ 0
unfolding plus
plus_self a = B.xor_self a

differ_lt : (x y : ℕ) → x < 2 → y < 2 → differ x y < 2
differ_lt zero y h l = l
differ_lt (suc x) zero h l = h
differ_lt (suc zero) (suc zero) h l = omega arith
differ_lt (suc zero) (suc (suc y)) h l = absurd (omega arith)
differ_lt (suc (suc x)) (suc y) h l = absurd (omega arith)

differ_assoc : (x y z : ℕ) → x < 2 → y < 2 → z < 2 → differ (differ x y) z ≡ differ x (differ y z)
differ_assoc zero y z h l k = refl
differ_assoc (suc x) zero z h l k = refl
differ_assoc (suc zero) (suc zero) zero h l k = refl
differ_assoc (suc zero) (suc zero) (suc zero) h l k = refl
differ_assoc (suc zero) (suc zero) (suc (suc z)) h l k = absurd (omega arith)
differ_assoc (suc zero) (suc (suc y)) z h l k = absurd (omega arith)
differ_assoc (suc (suc x)) (suc y) z h l k = absurd (omega arith)

-- the digits of a sum
pub plus_step : (a b : ℕ) → plus a b ≡ plus (a / 2) (b / 2) * 2 + differ (a % 2) (b % 2)
unfolding plus
plus_step a b = B.xor_step a b

pub plus-half : (a b : ℕ) → plus a b / 2 ≡ plus (a / 2) (b / 2)
plus-half a b = rw (plus_step a b) (digits_div (plus (a / 2) (b / 2)) (differ_lt (a % 2) (b % 2) (omega arith) (omega arith)))

pub plus-low : (a b : ℕ) → plus a b % 2 ≡ differ (a % 2) (b % 2)
plus-low a b = rw (plus_step a b) (digits_mod (plus (a / 2) (b / 2)) (differ_lt (a % 2) (b % 2) (omega arith) (omega arith)))

pub plus_assoc : (a b c : ℕ) → plus (plus a b) c ≡ plus a (plus b c)
plus_assoc =
    bin_ind (λ (n : ℕ). (b c : ℕ) → plus (plus n b) c ≡ plus n (plus b c)) (λ b c. rw (zero-plus b, zero-plus (plus b c)))
    (λ n ih b c.
    rw (
      plus_step (plus n b) c,
      plus_step n (plus b c),
      plus-half n b,
      plus-half b c,
      plus-low n b,
      plus-low b c,
      ih (b / 2) (c / 2),
      differ_assoc (n % 2) (b % 2) (c % 2) (omega arith) (omega arith) (omega arith),
    ))

-- a shift passes through a sum
pub plus-shift : (k a b : ℕ) → plus (a * 2 ^ k) (b * 2 ^ k) ≡ plus a b * 2 ^ k
unfolding plus
plus-shift k a b = simp add-zero at (B.xor_block k a b 0 0 (pow_pos k) (pow_pos k))

pub plus_shr : (a b k : ℕ) → plus a b / 2 ^ k ≡ plus (a / 2 ^ k) (b / 2 ^ k)
unfolding plus
plus_shr a b k = B.xor_shr a b k

-- high parts and low parts apart
pub plus_block : (k a b r s : ℕ) → r < 2 ^ k → s < 2 ^ k → plus (a * 2 ^ k + r) (b * 2 ^ k + s) ≡ plus a b * 2 ^ k + plus r s
unfolding plus
plus_block k a b r s = B.xor_block k a b r s

-- with no digit in common it is the sum
pub plus_join : (a k b : ℕ) → b < 2 ^ k → plus (a * 2 ^ k) b ≡ a * 2 ^ k + b
unfolding plus
plus_join a k b = B.xor_shifted a k b

pub plus-lt : (k a b : ℕ) → a < 2 ^ k → b < 2 ^ k → plus a b < 2 ^ k
unfolding plus
plus-lt k a b = B.xor_lt k a b

pub left_comm : (a b c : ℕ) → plus a (plus b c) ≡ plus b (plus a c)
left_comm a b c = sym (plus_assoc a b c) ∙ ap (λ x. plus x c) (plus_comm a b) ∙ plus_assoc b a c

pub cancel : (a b : ℕ) → plus a (plus a b) ≡ b
cancel a b = sym (plus_assoc a a b) ∙ ap (λ x. plus x b) (plus_self a) ∙ zero-plus b

-- `simp sums` proves an equation of sums whose two sides have the same terms, but for terms that stand twice
pub ruleset sums = (plus_assoc, plus_comm, left_comm, plus_self, cancel, plus-zero, zero-plus)

pub eq_of_zero : (a b : ℕ) → plus a b ≡ 0 → a ≡ b
eq_of_zero a b e = let s : a ≡ plus (plus a b) b = simp sums in s ∙ rw (e, zero-plus b)

pub across : (a b c d : ℕ) → plus a b ≡ plus c d → plus a c ≡ plus b d
across a b c d e = let s : plus a c ≡ plus (plus (plus a b) b) c = simp sums in s ∙ rw e (simp sums)
