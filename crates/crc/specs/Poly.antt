-- Polynomials over the field of two elements, as numbers: the digit of 2 ^ k is the coefficient of x ^ k. So x ^ k is 2 ^ k, and p * 2 ^ k is p
-- times x ^ k.
use Rattle.std.specs.Prelude.{◌≡◌, ℕ, zero, suc, ◌+◌, ◌*◌, ◌/◌, ◌%◌, ◌^◌, ◌<◌}
use Rattle.std.specs.Int.Bits.{bit_xor}

-- the sum of two has the digits in which they differ; the difference is the same
unfoldable pub plus : ℕ → ℕ → ℕ
plus p q = bit_xor p q

-- the product of two, as by hand: for each digit 1 of p a copy of q at its place. n counts the digits down from p itself,
-- which has no more
abbrev pub times_for : ℕ → ℕ → ℕ → ℕ
times_for zero p q = 0
times_for (suc n) zero q = 0
times_for (suc n) (suc p) q = plus (times_for n (suc p / 2) q * 2) (suc p % 2 * q)

unfoldable pub times : ℕ → ℕ → ℕ
times p q = times_for p p q

-- r is what p leaves when g, of degree k, divides it: p is a multiple of g plus r, and the degree of r is below k
pub record Leaves (k g p r : ℕ) : Type 0 where
  pub quotient : ℕ
  pub equation : p ≡ plus (times quotient g) r
  pub small : r < 2 ^ k

-- long division by a g of degree k, as by hand, with n terms to go: where p has the term x ^ (k + n - 1), g times x ^ (n - 1) is taken away
abbrev pub divided : ℕ → ℕ → ℕ → ℕ → ℕ
divided k g zero p = p
divided k g (suc n) p = divided k g n (plus p (p / 2 ^ (k + n) * (g * 2 ^ n)))
