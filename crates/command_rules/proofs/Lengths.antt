-- Laws of lengths. Assumes nothing.
use mathlib.Core.Path.{◌≡◌, refl}
use mathlib.Core.Bool.{Bool, true, false, cond, not, ◌&&◌}
use mathlib.Core.List.{List}
use Prim.Native.Nat.{ℕ, ◌-◌, ◌≤◌, ◌<◌}
use native.Mathlib.Omega.{arith}
use lib.Dec.{eqb, ltb, leb}
use borrow.Author.Tests.{leb-true, leb-false, eqb-false}
use Rattle.command_rules.specs.Lengths.{holds, wanted, least, cut, exists, size_of, Agrees}
use Rattle.command_rules.specs.declared.Earlier.{Earlier}
use Rattle.command_rules.specs.declared.Rule.{Rule}
use Rattle.command_rules.specs.declared.Wanted.{Wanted}
use Rattle.command_rules.specs.declared.Wanted.TheVariants.{Exactly, Rest}
use Rattle.command_rules.specs.declared.Length.{Length}
use Rattle.std.specs.Prelude.{Option, Some, None}

-- a Q that exists takes a byte or more, and at most what remains
least-within : (a b : ℕ) → least a b ≤ b
least-within a b = go (leb a b) refl
  where
    go : (x : Bool) → leb a b ≡ x → cond x a b ≤ b
    go true e = leb-true a b e
    go false e = omega arith

least_of : (a b : ℕ) → least a b ≤ a
least_of a b = go (leb a b) refl
  where
    go : (x : Bool) → leb a b ≡ x → cond x a b ≤ a
    go true e = omega arith
    go false e = omega (arith, leb-false a b e)

least-all : (a b : ℕ) → 0 < a - least a b → least a b ≡ b
least-all a b h = go (leb a b) h
  where
    go : (x : Bool) → 0 < a - cond x a b → cond x a b ≡ b
    go true k = absurd (omega arith)
    go false k = refl

cut-within : (w : Wanted) (rest : ℕ) → (cut w rest).taken ≤ rest
cut-within (Exactly n) rest = least-within n rest
cut-within Rest rest = omega arith

cut_agrees : (w : Wanted) (rest : ℕ) → Agrees w (cut w rest)
cut_agrees (Exactly n) rest = omega (arith, least_of n rest)
cut_agrees Rest rest = refl

cut_all : (w : Wanted) (rest : ℕ) → 0 < (cut w rest).lacking → (cut w rest).taken ≡ rest
cut_all (Exactly n) rest h = least-all n rest h
cut_all Rest rest h = refl

module _ (offset mask : Option ℕ) (rule : Rule) (es : List Earlier) (rest : ℕ) (l : Length)
    (is : size_of offset mask rule es rest ≡ Some l) where
  pub size_is : cut (wanted rule es) rest ≡ l
  unfolding size_of
  size_is = go (exists offset mask rule es rest) is
    where
      go : (x : Bool) → cond x (Some (cut (wanted rule es) rest)) None ≡ Some l → cut (wanted rule es) rest ≡ l
      go true e = cc
      go false e = absurd (let z : ◌≡◌ {A = ℕ} 0 1 = cc in omega arith)

  pub size-within : l.taken ≤ rest
  size-within = rw size_is at (cut-within (wanted rule es) rest)

  -- L4
  pub size_agrees : Agrees (wanted rule es) l
  size_agrees = rw size_is at (cut_agrees (wanted rule es) rest)

  -- what lacks something takes all that is left
  pub size-all : 0 < l.lacking → l.taken ≡ rest
  size-all = rw size_is at (cut_all (wanted rule es) rest)

  pub size_some : 0 < l.taken
  unfolding size_of
  size_some = go (ltb 0 rest) (holds offset mask es) (eqb (cut (wanted rule es) rest).taken 0) refl is
    where
      ne-zero : (m : ℕ) → (m ≡ 0 → ⊥) → 0 < m
      ne-zero m f = omega arith

      go : (a b c : Bool) → eqb (cut (wanted rule es) rest).taken 0 ≡ c
          → cond (a && (b && not c)) (Some (cut (wanted rule es) rest)) None ≡ Some l
          → 0 < l.taken
      go true true true q e = absurd (let z : ◌≡◌ {A = ℕ} 0 1 = cc in omega arith)
      go true true false q e = rw size_is at (ne-zero (cut (wanted rule es) rest).taken (eqb-false (cut (wanted rule es) rest).taken 0 q))
      go true false c q e = absurd (let z : ◌≡◌ {A = ℕ} 0 1 = cc in omega arith)
      go false b c q e = absurd (let z : ◌≡◌ {A = ℕ} 0 1 = cc in omega arith)
