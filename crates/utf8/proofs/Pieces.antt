-- What the first piece is, said by well-formed sequences alone: it is one, or no front is one; no longer front is a front of one; where it
-- has two bytes or more it is a front of one. Zero bytes behind change nothing. Assumes nothing.
use mathlib.Core.Path.{◌≡◌, refl, sym, ap, ◌∙◌}
use mathlib.Core.Bool.{Bool, true, false, cond, ◌&&◌}
use mathlib.Core.List.{List, [], ◌∷◌, ◌++◌}
use Prim.Native.Nat.{ℕ, zero, suc, ◌≤◌}
use native.Mathlib.Omega.{arith}
use lib.Dec.{leb, eqb}
use lib.ListN.{length, take, drop, replicate, take-append-drop}
use borrow.Author.Tests.{le-leb, lt-leb, eq-eqb, eqb-true, leb-true}
use Rattle.laws.proofs.Bools.{and_left, and_right}
use Rattle.utf8.specs.Table.{Row, table, within, fits, well_formed, agree, cut}
use Rattle.utf8.specs.Lead.{rest}
use Rattle.utf8.proofs.Laws.{by_lead, cut_some, and_false}
use Rattle.std.specs.Prelude.{Option, Some, None}

impossible : {A : Type 0} → true ≡ false → A
impossible e = absurd (let z : ◌≡◌ {A = ℕ} 0 1 = cc in omega arith)

cut_nil : (cut []).size ≡ 1
unfolding cut
cut_nil = refl

cut-none : (x : ℕ) (xs : List ℕ) → rest table x ≡ None → cut (x ∷ xs) ≡ record { size = 1; well = false }
unfolding cut
cut-none x xs q = rw ((by_lead x xs).size_by_lem, (by_lead x xs).well_by_lem, q)

form_some : (x : ℕ) (xs : List ℕ) (rs : Row) → rest table x ≡ Some rs → well_formed (x ∷ xs) ≡ fits rs xs
unfolding well_formed
form_some x xs rs q = rw ((by_lead x xs).form_by_lem, q)

form-none : (x : ℕ) (xs : List ℕ) → rest table x ≡ None → well_formed (x ∷ xs) ≡ false
unfolding well_formed
form-none x xs q = rw ((by_lead x xs).form_by_lem, q)

pub form_nil : well_formed [] ≡ false
unfolding well_formed
form_nil = refl

-- ---- how many bytes agree
agree-le : (rs : Row) (xs : List ℕ) → agree rs xs ≤ length xs
agree-le [] xs = omega arith
agree-le (r ∷ rs) [] = omega arith
agree-le (r ∷ rs) (x ∷ xs) = go (within r x) (agree-le rs xs)
  where
    go : (t : Bool) → agree rs xs ≤ length xs → cond t (suc (agree rs xs)) 0 ≤ suc (length xs)
    go true i = omega arith
    go false i = omega arith

agree-fits : (rs : Row) (xs : List ℕ) → agree rs xs ≡ length rs → fits rs (take (length rs) xs) ≡ true
agree-fits [] xs e = refl
agree-fits (r ∷ rs) [] e = absurd (omega arith)
agree-fits (r ∷ rs) (x ∷ xs) e = go (within r x) e (agree-fits rs xs)
  where
    go : (t : Bool) → cond t (suc (agree rs xs)) 0 ≡ suc (length rs) → (agree rs xs ≡ length rs → fits rs (take (length rs) xs) ≡ true)
        → t && fits rs (take (length rs) xs) ≡ true
    go true h i = i (omega arith)
    go false h i = absurd (omega arith)

fits-agree : (rs : Row) (p l : List ℕ) → fits rs p ≡ true → (agree rs (p ++ l) ≡ length p) × (length rs ≡ length p)
fits-agree [] [] l e = (refl, refl)
fits-agree [] (x ∷ p) l e = impossible (sym e)
fits-agree (r ∷ rs) [] l e = impossible (sym e)
fits-agree (r ∷ rs) (x ∷ p) l e =
    let w : within r x ≡ true = and_left (within r x) (fits rs p) e in
    let i : (agree rs (p ++ l) ≡ length p) × (length rs ≡ length p) = fits-agree rs p l (and_right (within r x) (fits rs p) e) in
    (rw w (ap suc i.0), ap suc i.1)

fits-most : (rs : Row) (n : ℕ) (xs w : List ℕ) → n ≤ length xs → fits rs (take n xs ++ w) ≡ true → n ≤ agree rs xs
fits-most rs zero xs w h e = omega arith
fits-most rs (suc n) [] w h e = absurd (omega arith)
fits-most [] (suc n) (x ∷ xs) w h e = impossible (sym e)
fits-most (r ∷ rs) (suc n) (x ∷ xs) w h e =
    let v : within r x ≡ true = and_left (within r x) (fits rs (take n xs ++ w)) e in
    let i : n ≤ agree rs xs = fits-most rs n xs w (omega arith) (and_right (within r x) (fits rs (take n xs ++ w)) e) in
    rw v (omega arith)

-- ---- the size of the first piece
pub record Sized (s : List ℕ) : Type 0 where
  pub some_size : 1 ≤ (cut s).size
  pub in_size : (cut s).size ≤ length s

pub cut-sized : (x : ℕ) (xs : List ℕ) → Sized (x ∷ xs)
cut-sized x xs = go (rest table x) refl
  where
    go : (o : Option Row) → rest table x ≡ o → Sized (x ∷ xs)
    go None q = record { some_size = rw (cut-none x xs q) (omega arith); in_size = rw (cut-none x xs q) (omega arith) }
    go (Some rs) q = record { some_size = rw (cut_some x xs rs q) (omega arith); in_size = rw (cut_some x xs rs q) (omega (arith, agree-le rs xs)) }

-- ---- a piece that is well is a well-formed sequence
pub well_is : (x : ℕ) (xs : List ℕ) → (cut (x ∷ xs)).well ≡ true → well_formed (take (cut (x ∷ xs)).size (x ∷ xs)) ≡ true
well_is x xs e = go (rest table x) refl
  where
    go : (o : Option Row) → rest table x ≡ o → well_formed (take (cut (x ∷ xs)).size (x ∷ xs)) ≡ true
    go None q = impossible (sym (rw (cut-none x xs q) at e))
    go (Some rs) q =
        let f : eqb (suc (agree rs xs)) (suc (length rs)) ≡ true = rw (cut_some x xs rs q) at e in
        let a : agree rs xs ≡ length rs = omega (arith, eqb-true (suc (agree rs xs)) (suc (length rs)) f) in
        rw (cut_some x xs rs q, form_some x (take (agree rs xs) xs) rs q, a) (agree-fits rs xs a)

-- ---- a well-formed sequence in front is the first piece
pub well_front : (x : ℕ) (p l : List ℕ) → well_formed (x ∷ p) ≡ true → cut (x ∷ (p ++ l)) ≡ record { size = suc (length p); well = true }
well_front x p l e = go (rest table x) refl
  where
    go : (o : Option Row) → rest table x ≡ o → cut (x ∷ (p ++ l)) ≡ record { size = suc (length p); well = true }
    go None q = impossible (sym (rw (form-none x p q) at e))
    go (Some rs) q =
        let f : fits rs p ≡ true = rw (form_some x p rs q) at e in
        let i : (agree rs (p ++ l) ≡ length p) × (length rs ≡ length p) = fits-agree rs p l f in
        rw (cut_some x (p ++ l) rs q, i.0, i.1, eq-eqb (suc (length p)) (suc (length p)) refl)

-- ---- a piece that is not: no front of the bytes is well-formed
pub ill_none : (s : List ℕ) (n : ℕ) → (cut s).well ≡ false → well_formed (take n s) ≡ true → ⊥
ill_none s zero e f = impossible (sym f ∙ form_nil)
ill_none [] (suc n) e f = impossible (sym f ∙ form_nil)
ill_none (x ∷ xs) (suc n) e f =
    let h : (cut (x ∷ (take n xs ++ drop n xs))).well ≡ true = rw (well_front x (take n xs) (drop n xs) f) in
    let g : (cut (x ∷ xs)).well ≡ true = rw take-append-drop at h in
    impossible (sym g ∙ e)

-- ---- no longer front is a front of a well-formed sequence
pub cut_most : (s : List ℕ) (n : ℕ) (w : List ℕ) → n ≤ length s → well_formed (take n s ++ w) ≡ true → n ≤ (cut s).size
cut_most s zero w h e = omega arith
cut_most [] (suc n) w h e = absurd (omega arith)
cut_most (x ∷ xs) (suc n) w h e = go (rest table x) refl
  where
    go : (o : Option Row) → rest table x ≡ o → suc n ≤ (cut (x ∷ xs)).size
    go None q = impossible (sym (rw (form-none x (take n xs ++ w) q) at e))
    go (Some rs) q = rw (cut_some x xs rs q) (omega (arith, fits-most rs n xs w (omega arith) (rw (form_some x (take n xs ++ w) rs q) at e)))

-- ---- two bytes or more are a front of a well-formed sequence
-- no byte of a row may be 0, and each may be some
abbrev sound : Row → Bool
sound [] = true
sound (r ∷ rs) = (leb 1 r.0 && leb r.0 r.1) && sound rs

record Sound (r : ℕ × ℕ) (rs : Row) : Type 0 where
  not-zero : 1 ≤ r.0
  to_most : r.0 ≤ r.1
  then : sound rs ≡ true

sounds : (r : ℕ × ℕ) (rs : Row) → sound (r ∷ rs) ≡ true → Sound r rs
sounds r rs s =
    let o : leb 1 r.0 && leb r.0 r.1 ≡ true = and_left (leb 1 r.0 && leb r.0 r.1) (sound rs) s in
    record {
      not-zero = leb-true 1 r.0 (and_left (leb 1 r.0) (leb r.0 r.1) o);
      to_most = leb-true r.0 r.1 (and_right (leb 1 r.0) (leb r.0 r.1) o);
      then = and_right (leb 1 r.0 && leb r.0 r.1) (sound rs) s;
    }

abbrev sound_all : List Row → Bool
sound_all [] = true
sound_all ([] ∷ rows) = false
sound_all ((r ∷ rs) ∷ rows) = sound rs && sound_all rows

sound_some : (rows : List Row) (x : ℕ) (rs : Row) → sound_all rows ≡ true → rest rows x ≡ Some rs → sound rs ≡ true
sound_some [] x rs s q = absurd (let z : ◌≡◌ {A = ℕ} 0 1 = cc in omega arith)
sound_some ([] ∷ rows) x rs s q = impossible (sym s)
sound_some ((r ∷ ts) ∷ rows) x rs s q = go (within r x) q (sound_some rows x rs (and_right (sound ts) (sound_all rows) s))
  where
    go : (t : Bool) → cond t (Some ts) (rest rows x) ≡ Some rs → (rest rows x ≡ Some rs → sound rs ≡ true) → sound rs ≡ true
    go true e i = let z : ts ≡ rs = cc in rw z at (and_left (sound ts) (sound_all rows) s)
    go false e i = i e

table_sound : (x : ℕ) (rs : Row) → rest table x ≡ Some rs → sound rs ≡ true
table_sound x rs q = sound_some table x rs refl q

-- the least bytes that a row admits
abbrev least : Row → List ℕ
least [] = []
least (r ∷ rs) = r.0 ∷ least rs

least_fits : (rs : Row) → sound rs ≡ true → fits rs (least rs) ≡ true
least_fits [] s = refl
least_fits (r ∷ rs) s =
    let g : Sound r rs = sounds r rs s in
    rw (le-leb r.0 r.1 g.to_most, le-leb r.0 r.0 (omega arith)) (least_fits rs g.then)

fits_on : (rs : Row) (xs : List ℕ) → sound rs ≡ true → fits rs (take (agree rs xs) xs ++ least (drop (agree rs xs) rs)) ≡ true
fits_on [] xs s = refl
fits_on (r ∷ rs) [] s = least_fits (r ∷ rs) s
fits_on (r ∷ rs) (x ∷ xs) s = go (within r x) refl (fits_on rs xs (sounds r rs s).then)
  where
    go : (t : Bool) → within r x ≡ t → fits rs (take (agree rs xs) xs ++ least (drop (agree rs xs) rs)) ≡ true
        → fits (r ∷ rs) (take (cond t (suc (agree rs xs)) 0) (x ∷ xs) ++ least (drop (cond t (suc (agree rs xs)) 0) (r ∷ rs))) ≡ true
    go true w i = rw w i
    go false w i = least_fits (r ∷ rs) s

pub front_of : (s : List ℕ) → 2 ≤ (cut s).size → (w : List ℕ) × (well_formed (take (cut s).size s ++ w) ≡ true)
front_of [] h = absurd (omega (arith, cut_nil))
front_of (x ∷ xs) h = go (rest table x) refl
  where
    go : (o : Option Row) → rest table x ≡ o → (w : List ℕ) × (well_formed (take (cut (x ∷ xs)).size (x ∷ xs) ++ w) ≡ true)
    go None q = absurd (omega (arith, rw (cut-none x xs q) at h))
    go (Some rs) q = (
      least (drop (agree rs xs) rs),
      rw (
        cut_some x xs rs q,
        form_some x (take (agree rs xs) xs ++ least (drop (agree rs xs) rs)) rs q,
      ) (fits_on rs xs (table_sound x rs q)),
    )

-- ---- zero bytes behind change nothing
agree-zeros : (rs : Row) (xs : List ℕ) (n : ℕ) → sound rs ≡ true → agree rs (xs ++ replicate n 0) ≡ agree rs xs
agree-zeros [] xs n s = refl
agree-zeros (r ∷ rs) [] zero s = refl
agree-zeros (r ∷ rs) [] (suc n) s =
    let g : Sound r rs = sounds r rs s in
    rw (lt-leb r.0 0 g.not-zero, and_false)
agree-zeros (r ∷ rs) (x ∷ xs) n s = rw (agree-zeros rs xs n (sounds r rs s).then)

pub cut-zeros : (x : ℕ) (xs : List ℕ) (n : ℕ) → cut (x ∷ (xs ++ replicate n 0)) ≡ cut (x ∷ xs)
cut-zeros x xs n = go (rest table x) refl
  where
    go : (o : Option Row) → rest table x ≡ o → cut (x ∷ (xs ++ replicate n 0)) ≡ cut (x ∷ xs)
    go None q = rw (cut-none x xs q, cut-none x (xs ++ replicate n 0) q)
    go (Some rs) q = rw (cut_some x xs rs q, cut_some x (xs ++ replicate n 0) rs q, agree-zeros rs xs n (table_sound x rs q))
