-- CV4 (docs/RULES.md): no count passes the greatest, and a frame raises no count by more than the places that name it. Assumes nothing.
use mathlib.Core.Path.{◌≡◌, refl, sym}
use mathlib.Core.Bool.{Bool, true, false, cond, ◌&&◌}
use mathlib.Core.List.{List, [], ◌∷◌}
use Prim.Native.Nat.{ℕ, ◌+◌, ◌≤◌, ◌<◌}
use native.Mathlib.Omega.{arith}
use lib.Dec.{eqb, ltb}
use lib.ListN.{length, get_or, set, length-set, get_or-eq_default}
use lib.Seq.{get_or-set_same, get_or-set_other}
use borrow.Author.Tests.{eqb-true, eqb-false, ltb-true, ltb-false}
use Rattle.laws.proofs.Bools.{and_right}
use Rattle.totals.specs.Totals.{most}
use Rattle.coverage.specs.Coverage.{size, raised, raised_all}

-- how often a place stands in a list of places
abbrev pub often : ℕ → List ℕ → ℕ
often i [] = 0
often i (j ∷ js) = cond (eqb j i) 1 0 + often i js

-- one number more: elsewhere nothing changes, and there at most by 1
more : (l : List ℕ) (j i : ℕ) → (get_or l i 0 ≤ get_or (set l j (get_or l j 0 + 1)) i 0)
    × (get_or (set l j (get_or l j 0 + 1)) i 0 ≤ get_or l i 0 + cond (eqb j i) 1 0)
more l j i = go (ltb i (length l)) refl (eqb j i) refl
  where
    v : ℕ
    v = get_or l j 0 + 1

    go : (b : Bool) → ltb i (length l) ≡ b → (c : Bool) → eqb j i ≡ c
        → (get_or l i 0 ≤ get_or (set l j v) i 0) × (get_or (set l j v) i 0 ≤ get_or l i 0 + cond c 1 0)
    go false e c q =
        let past : length l ≤ i = ltb-false i (length l) e in
        let none : get_or (set l j v) i 0 ≡ 0 = get_or-eq_default (set l j v) 0 (rw (length-set l j v) past) in
        let also : get_or l i 0 ≡ 0 = get_or-eq_default l 0 past in
        (omega arith, omega arith)
    go true e true q =
        let same : j ≡ i = eqb-true j i q in
        let is : get_or (set l i (get_or l i 0 + 1)) i 0 ≡ get_or l i 0 + 1 = get_or-set_same l i (get_or l i 0 + 1) 0 (ltb-true i (length l) e) in
        rw same (omega arith, omega arith)
    go true e false q =
        let other : get_or (set l j v) i 0 ≡ get_or l i 0 = get_or-set_other l j i v 0 (λ p. eqb-false j i q (sym p)) in
        (omega arith, omega arith)

-- a raised count is no less than before, at most 1 more, and within the limit if it was
module _ (counts : List ℕ) (j i : ℕ) where
  pub raised_grows : (get_or counts i 0 ≤ get_or (raised counts j) i 0) × (get_or (raised counts j) i 0 ≤ get_or counts i 0 + cond (eqb j i) 1 0)
  raised_grows = go (ltb j size && ltb (get_or counts j 0) most)
    where
      go : (b : Bool) → (get_or counts i 0 ≤ get_or (cond b (set counts j (get_or counts j 0 + 1)) counts) i 0)
          × (get_or (cond b (set counts j (get_or counts j 0 + 1)) counts) i 0 ≤ get_or counts i 0 + cond (eqb j i) 1 0)
      go true = more counts j i
      go false = (omega arith, omega arith)

  pub raised-low : get_or counts i 0 ≤ most → get_or (raised counts j) i 0 ≤ most
  raised-low low = go (ltb j size && ltb (get_or counts j 0) most) refl (eqb j i) refl
    where
      go : (b : Bool) → (ltb j size && ltb (get_or counts j 0) most) ≡ b → (c : Bool) → eqb j i ≡ c
          → get_or (cond b (set counts j (get_or counts j 0 + 1)) counts) i 0 ≤ most
      go false e c q = low
      go true e true q =
          let same : j ≡ i = eqb-true j i q in
          let under : get_or counts j 0 < most = ltb-true (get_or counts j 0) most (and_right (ltb j size) _ e) in
          let up : get_or (set counts j (get_or counts j 0 + 1)) i 0 ≤ get_or counts i 0 + 1 = rw q at (more counts j i).1 in
          let at : get_or counts j 0 ≡ get_or counts i 0 = rw same refl in
          omega arith
      go true e false q =
          let up : get_or (set counts j (get_or counts j 0 + 1)) i 0 ≤ get_or counts i 0 + 0 = rw q at (more counts j i).1 in
          omega arith

-- CV4: of all places that frames raise
pub all-low : (counts js : List ℕ) (i : ℕ) → get_or counts i 0 ≤ most → get_or (raised_all counts js) i 0 ≤ most
all-low counts [] i low = low
all-low counts (j ∷ js) i low = all-low (raised counts j) js i (raised-low counts j i low)

pub all_grow : (counts js : List ℕ) (i : ℕ)
    → (get_or counts i 0 ≤ get_or (raised_all counts js) i 0) × (get_or (raised_all counts js) i 0 ≤ get_or counts i 0 + often i js)
all_grow counts [] i = (omega arith, omega arith)
all_grow counts (j ∷ js) i =
    let one = raised_grows counts j i in
    let rest = all_grow (raised counts j) js i in
    (omega (arith, one.0, rest.0), omega (arith, one.1, rest.1))
