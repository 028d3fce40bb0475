-- The law of a region that the table does not have. Assumes nothing.
use mathlib.Core.Path.{◌≡◌, refl, sym}
use Prim.Native.Nat.{ℕ, zero, suc, ◌+◌, ◌≤◌}
use native.Mathlib.Omega.{arith}
use lib.ListN.{get_or-eq_default}
use Rattle.readers.specs.Region.{codes, code_of}

three : (n k : ℕ) → k ≤ n → (n ≡ k → ⊥) → (n ≡ k + 1 → ⊥) → (n ≡ k + 2 → ⊥) → k + 3 ≤ n
three n k h a b c = omega (arith, a, b, c)

one : (m : ℕ) → 1 ≤ suc m
one m = omega arith

two : (n k : ℕ) → k ≤ n → (n ≡ k → ⊥) → (n ≡ k + 1 → ⊥) → k + 2 ≤ n
two n k h a b = omega (arith, a, b)

pub code_none : (n : ℕ) → (n ≡ 1 → ⊥) → (n ≡ 2 → ⊥) → (n ≡ 3 → ⊥) → (n ≡ 4 → ⊥) → (n ≡ 5 → ⊥) → (n ≡ 6 → ⊥)
    → (n ≡ 7 → ⊥) → (n ≡ 8 → ⊥) → (n ≡ 9 → ⊥) → (n ≡ 10 → ⊥) → (n ≡ 11 → ⊥) → (n ≡ 12 → ⊥)
    → (n ≡ 13 → ⊥) → (n ≡ 14 → ⊥) → (n ≡ 15 → ⊥) → (n ≡ 16 → ⊥) → (n ≡ 17 → ⊥) → 256 ≡ code_of n
code_none zero h1 h2 h3 h4 h5 h6 h7 h8 h9 h10 h11 h12 h13 h14 h15 h16 h17 = refl
code_none (suc m) h1 h2 h3 h4 h5 h6 h7 h8 h9 h10 h11 h12 h13 h14 h15 h16 h17 =
    let a : 7 ≤ suc m = three (suc m) 4 (three (suc m) 1 (one m) h1 h2 h3) h4 h5 h6 in
    let b : 13 ≤ suc m = three (suc m) 10 (three (suc m) 7 a h7 h8 h9) h10 h11 h12 in
    sym (get_or-eq_default codes 256 (two (suc m) 16 (three (suc m) 13 b h13 h14 h15) h16 h17))
