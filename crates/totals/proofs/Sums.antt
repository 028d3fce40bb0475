-- Laws of sums over frames, and of totals that they are added to. Assumes nothing.
use mathlib.Core.Path.{◌≡◌, refl, sym, ap, ◌∙◌}
use mathlib.Core.Bool.{Bool, true, false, cond, not, ◌&&◌}
use mathlib.Core.List.{List, [], ◌∷◌, ◌++◌, append-nil}
use Prim.Native.Nat.{ℕ, zero, suc, ◌+◌, ◌-◌, ◌^◌, ◌≤◌, ◌<◌}
use native.Mathlib.Nat.{add-zero}
use native.Mathlib.Omega.{arith}
use mir.Syntax.{w64}
use mir.Val.{Fits}
use lib.Dec.{eqb, leb, ltb}
use lib.ListN.{length, get_or, set, drop, length-set, length-replicate, get_or-replicate, get_or-eq_default}
use lib.Seq.{sets, sets-eq, get_or-set_same, get_or-set_other, drop-set-lt, ext_get_or}
use borrow.Author.Tests.{eqb-true, eqb-false, ltb-true, ltb-false, le-leb, lt-leb, leb-true}
use Rattle.laws.proofs.Bools.{and_left, and_right}
use Rattle.laws.proofs.Lists.{next, done}
use Rattle.totals.specs.Totals.{size, amount_at, grown_at, raised, most, within}
use Rattle.totals.specs.Steps.{zeros, tally, tally_rows, Room, Tallies, plus}

-- ---- one number more
module _ (l : List ℕ) (at n i : ℕ) where
  more_at : i < length l → get_or (set l at (get_or l at 0 + n)) i 0 ≡ get_or l i 0 + cond (eqb at i) n 0
  more_at h = go (eqb at i) refl
    where
      go : (b : Bool) → eqb at i ≡ b → get_or (set l at (get_or l at 0 + n)) i 0 ≡ get_or l i 0 + cond b n 0
      go true e = let q : at ≡ i = eqb-true at i e in rw q (get_or-set_same l i (get_or l i 0 + n) 0 h)
      go false e =
          let other : get_or (set l at (get_or l at 0 + n)) i 0 ≡ get_or l i 0 = get_or-set_other l at i (get_or l at 0 + n) 0 (λ q. eqb-false at i e (sym q)) in
          omega arith

  more-most : get_or (set l at (get_or l at 0 + n)) i 0 ≤ get_or l i 0 + n
  more-most = go (ltb i (length l)) refl (eqb at i) refl
    where
      go : (b : Bool) → ltb i (length l) ≡ b → (c : Bool) → eqb at i ≡ c → get_or (set l at (get_or l at 0 + n)) i 0 ≤ get_or l i 0 + n
      go true e true q = omega (arith, rw q at (more_at (ltb-true i (length l) e)))
      go true e false q = omega (arith, rw q at (more_at (ltb-true i (length l) e)))
      go false e c q =
          let past = ltb-false i (length l) e in
          let none : get_or (set l at (get_or l at 0 + n)) i 0 ≡ 0 =
          get_or-eq_default (set l at (get_or l at 0 + n)) 0 (rw (length-set l at (get_or l at 0 + n)) past) in
          omega arith

-- ---- counts, one after the other
pub length-tally : (sums : List ℕ) (ps : List (ℕ × ℕ)) → length (tally sums ps) ≡ length sums
length-tally sums [] = refl
length-tally sums (p ∷ ps) = length-tally (set sums p.0 (get_or sums p.0 0 + p.1)) ps ∙ length-set sums p.0 (get_or sums p.0 0 + p.1)

tally_at : (sums : List ℕ) (ps : List (ℕ × ℕ)) (i : ℕ) → i < length sums → get_or (tally sums ps) i 0 ≡ get_or sums i 0 + amount_at i ps
tally_at sums [] i h = omega arith
tally_at sums (p ∷ ps) i h =
    let v = get_or sums p.0 0 + p.1 in
    let rest = tally_at (set sums p.0 v) ps i (rw (length-set sums p.0 v) h) in
    omega (arith, rest, more_at sums p.0 p.1 i h)

tally-append : (sums : List ℕ) (ps qs : List (ℕ × ℕ)) → tally sums (ps ++ qs) ≡ tally (tally sums ps) qs
tally-append sums [] qs = refl
tally-append sums (p ∷ ps) qs = tally-append (set sums p.0 (get_or sums p.0 0 + p.1)) ps qs

-- ---- room for more
pub room_less : (j k : ℕ) (sums : List ℕ) → Room k sums → j ≤ k → Room j sums
room_less j k sums r h i = omega (arith, r i)

pub add_fits : (sums : List ℕ) (at n : ℕ) → Room 1 sums → n < 2 ^ 16 → Fits w64 (get_or sums at 0 + n)
add_fits sums at n r h = omega (arith, r at)

pub adds_one : (sums : List ℕ) (at n : ℕ) → n < 2 ^ 16 → Tallies 1 ((at, n) ∷ []) sums (set sums at (get_or sums at 0 + n))
adds_one sums at n h = record { is = refl; room = λ k r i. omega (arith, r i, more-most sums at n i) }

pub adds_none : (m : ℕ) (sums : List ℕ) → Tallies m [] sums sums
adds_none m sums = record { is = refl; room = λ k r i. omega (arith, r i) }

pub adds_both : (m n : ℕ) (ps qs : List (ℕ × ℕ)) (a b c : List ℕ) → Tallies m ps a b → Tallies n qs b c → Tallies (m + n) (ps ++ qs) a c
adds_both m n ps qs a b c p q =
    record {
      is = q.is ∙ ap (λ (l : List ℕ). tally l qs) p.is ∙ sym (tally-append a ps qs);
      room = λ k r. q.room k (p.room (n + k) (λ i. omega (arith, r i)));
    }

pub adds_within : (m n : ℕ) (ps : List (ℕ × ℕ)) (a b : List ℕ) → Tallies m ps a b → m ≤ n → Tallies n ps a b
adds_within m n ps a b p h = record { is = p.is; room = λ k r. p.room k (λ i. omega (arith, r i)) }

-- room for one or two more behind one
pub room-behind : (ps : List (ℕ × ℕ)) (a b : List ℕ) (k : ℕ) → Tallies 1 ps a b → Room (1 + k) a → Room k b
room-behind ps a b k p r = p.room k r

-- ---- the rows
module _ (f : List ℕ → List (ℕ × ℕ)) where
  pub length-rows : (sums : List ℕ) (rs : List (List ℕ)) → length (tally_rows f sums rs) ≡ length sums
  unfolding tally_rows
  length-rows sums [] = refl
  length-rows sums (r ∷ rs) = length-rows (tally sums (f r)) rs ∙ length-tally sums (f r)

  rows_at : (sums : List ℕ) (rs : List (List ℕ)) (i : ℕ) → i < length sums → get_or (tally_rows f sums rs) i 0 ≡ get_or sums i 0 + grown_at f rs i
  unfolding tally_rows
  rows_at sums [] i h = omega arith
  rows_at sums (r ∷ rs) i h =
      omega (arith, rows_at (tally sums (f r)) rs i (rw (length-tally sums (f r)) h), tally_at sums (f r) i h)

-- ---- totals and sums, place by place
pub length-plus : (xs ys : List ℕ) → length (plus xs ys) ≡ length xs
length-plus [] ys = refl
length-plus (x ∷ xs) [] = refl
length-plus (x ∷ xs) (y ∷ ys) = ap suc (length-plus xs ys)

plus_at : (xs ys : List ℕ) (i : ℕ) → i < length xs → get_or (plus xs ys) i 0 ≡ get_or xs i 0 + get_or ys i 0
plus_at [] ys i h = absurd (omega arith)
plus_at (x ∷ xs) [] i h = omega arith
plus_at (x ∷ xs) (y ∷ ys) zero h = refl
plus_at (x ∷ xs) (y ∷ ys) (suc i) h = plus_at xs ys i (omega arith)

pub length-raised : (g : ℕ → ℕ) (i : ℕ) (xs : List ℕ) → length (raised g i xs) ≡ length xs
length-raised g i [] = refl
length-raised g i (x ∷ xs) = ap suc (length-raised g (suc i) xs)

pub raised_at : (g : ℕ → ℕ) (j : ℕ) (xs : List ℕ) (i : ℕ) → i < length xs → get_or (raised g j xs) i 0 ≡ get_or xs i 0 + g (j + i)
raised_at g j [] i h = absurd (omega arith)
raised_at g j (x ∷ xs) zero h = rw (add-zero j) refl
raised_at g j (x ∷ xs) (suc i) h =
    let e : suc j + i ≡ j + suc i = omega arith in
    rw (← e) (raised_at g (suc j) xs i (omega arith))

-- the sums of all rows, added: each total with what the frames add to it
pub grown : (f : List ℕ → List (ℕ × ℕ)) (rs : List (List ℕ)) (totals : List ℕ) → length totals ≡ size
    → plus totals (tally_rows f zeros rs) ≡ raised (grown_at f rs) 0 totals
grown f rs totals full =
    ext_get_or 0 (plus totals sums) (raised (grown_at f rs) 0 totals) (length-plus totals sums ∙ sym (length-raised (grown_at f rs) 0 totals)) same
  where
    sums : List ℕ
    sums = tally_rows f zeros rs

    same : (i : ℕ) → i < length (plus totals sums) → get_or (plus totals sums) i 0 ≡ get_or (raised (grown_at f rs) 0 totals) i 0
    same i h =
        let inside : i < length totals = rw (length-plus totals sums) at h in
        let few : i < size = omega arith in
        let none : get_or zeros i 0 ≡ 0 = get_or-replicate {A = ℕ} size i 0 0 few in
        let sum : get_or sums i 0 ≡ get_or zeros i 0 + grown_at f rs i = rows_at f zeros rs i (rw (length-replicate {A = ℕ} size 0) few) in
        let z : 0 + i ≡ i = omega arith in
        let a = plus_at totals sums i inside in
        let b : get_or (raised (grown_at f rs) 0 totals) i 0 ≡ get_or totals i 0 + grown_at f rs i = rw z at (raised_at (grown_at f rs) 0 totals i inside) in
        omega arith

-- ---- would one pass the limit, place by place
pub record Passing (totals sums : List ℕ) (i : ℕ) : Type 0 where
  pub so : within (plus totals sums) ≡ within (plus (drop i totals) (drop i sums))
  pub all : length totals ≡ size
  pub also : length sums ≡ size

pub passing_starts : (totals sums : List ℕ) → length totals ≡ size → length sums ≡ size → Passing totals sums 0
passing_starts totals sums all also = record { so = refl; all = all; also = also }

module _ (totals sums : List ℕ) (i : ℕ) (inv : Passing totals sums i) where
  here : i < length totals → within (plus totals sums)
      ≡ (leb (get_or totals i 0 + get_or sums i 0) most && within (plus (drop (i + 1) totals) (drop (i + 1) sums)))
  here h = inv.so ∙ rw (next totals i (omega (arith, inv.all)), next sums i (omega (arith, inv.all, inv.also))) refl

  pub passes_over : i < length totals → most < get_or totals i 0 → true ≡ not (within (plus totals sums))
  passes_over h over = rw (here h, lt-leb (get_or totals i 0 + get_or sums i 0) most (omega arith)) refl

  pub passes_more : i < length totals → get_or totals i 0 ≤ most → most - get_or totals i 0 < get_or sums i 0 → true ≡ not (within (plus totals sums))
  passes_more h low over = rw (here h, lt-leb (get_or totals i 0 + get_or sums i 0) most (omega arith)) refl

  pub passing-more : i < length totals → get_or totals i 0 ≤ most → get_or sums i 0 ≤ most - get_or totals i 0 → Passing totals sums (i + 1)
  passing-more h low fits =
      record { so = here h ∙ rw (le-leb (get_or totals i 0 + get_or sums i 0) most (omega arith)) refl; all = inv.all; also = inv.also }

  pub passes_none : length totals ≤ i → false ≡ not (within (plus totals sums))
  passes_none h = rw (inv.so, done totals i (omega (arith, inv.all))) refl

-- ---- added, place by place: with what is left of the sums added, the totals are those that are asked for
pub record Raising (totals₀ totals sums : List ℕ) (i : ℕ) : Type 0 where
  pub rest : sets totals i (plus (drop i totals₀) (drop i sums)) ≡ plus totals₀ sums
  pub same : drop i totals ≡ drop i totals₀
  pub fits : within (plus (drop i totals₀) (drop i sums)) ≡ true
  pub first : length totals₀ ≡ size
  pub all : length totals ≡ size
  pub also : length sums ≡ size

sets-all : (l t : List ℕ) → length l ≡ length t → sets t 0 l ≡ l
sets-all l t e =
    let z : 0 + length l ≡ length l = omega arith in
    sets-eq l t 0 (omega arith) ∙ rw (z, done t (length l) (omega arith)) (append-nil l)

pub raising_starts : (totals sums : List ℕ) → length totals ≡ size → length sums ≡ size → within (plus totals sums) ≡ true
    → Raising totals totals sums 0
raising_starts totals sums full also fits =
    record { rest = sets-all (plus totals sums) totals (length-plus totals sums); same = refl; fits = fits; first = full; all = full; also = also }

module _ (totals₀ totals sums : List ℕ) (i : ℕ) (inv : Raising totals₀ totals sums i) where
  module _ (h : i < length totals) where
    one : drop i totals₀ ≡ get_or totals i 0 ∷ drop (i + 1) totals₀
    one =
        let a : drop i totals ≡ get_or totals i 0 ∷ drop (i + 1) totals = next totals i (omega (arith, inv.all)) in
        let b : drop i totals₀ ≡ get_or totals₀ i 0 ∷ drop (i + 1) totals₀ = next totals₀ i (omega (arith, inv.first, inv.all)) in
        let q : get_or totals i 0 ≡ get_or totals₀ i 0 = cc inv.same in
        b ∙ rw q refl

    tail-same : drop (i + 1) totals ≡ drop (i + 1) totals₀
    tail-same =
        let a : drop i totals ≡ get_or totals i 0 ∷ drop (i + 1) totals = next totals i (omega (arith, inv.all)) in
        let b : drop i totals₀ ≡ get_or totals₀ i 0 ∷ drop (i + 1) totals₀ = next totals₀ i (omega (arith, inv.first, inv.all)) in
        cc inv.same

    other : drop i sums ≡ get_or sums i 0 ∷ drop (i + 1) sums
    other = next sums i (omega (arith, inv.all, inv.also))

    both_fit : (leb (get_or totals i 0 + get_or sums i 0) most && within (plus (drop (i + 1) totals₀) (drop (i + 1) sums))) ≡ true
    both_fit = rw (one, other) at inv.fits

    pub raise_fits : Fits w64 (get_or totals i 0 + get_or sums i 0)
    raise_fits =
        let low = leb-true (get_or totals i 0 + get_or sums i 0) most (and_left (leb (get_or totals i 0 + get_or sums i 0) most) _ both_fit) in
        omega arith

    pub raising_more : Raising totals₀ (set totals i (get_or totals i 0 + get_or sums i 0)) sums (i + 1)
    raising_more =
        let e : i + 1 ≡ suc i = omega arith in
        let v = get_or totals i 0 + get_or sums i 0 in
        let rest : sets totals i (v ∷ plus (drop (i + 1) totals₀) (drop (i + 1) sums)) ≡ plus totals₀ sums = rw (one, other) at inv.rest in
        record {
          rest = rw e (rw e at rest);
          same = drop-set-lt (i + 1) totals i v (omega arith) ∙ tail-same;
          fits = and_right (leb v most) _ both_fit;
          first = inv.first;
          all = rw length-set inv.all;
          also = inv.also;
        }

  pub raising_done : length totals ≤ i → totals ≡ plus totals₀ sums
  raising_done h = rw (done totals₀ i (omega (arith, inv.first, inv.all))) at inv.rest

pub ruleset sum_laws = (
  room_less,
  add_fits,
  adds_one,
  room-behind,
  passing_starts,
  passes_over,
  passes_more,
  passing-more,
  passes_none,
  raising_starts,
  raise_fits,
  raising_more,
  raising_done,
)
