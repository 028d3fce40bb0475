-- What stands for bytes: well-formed text as it is, one U+FFFD a maximal subpart, well-formed text always, at most three times as long; and
-- zero bytes at the end may go before the pieces are replaced or after. Assumes nothing.
use mathlib.Core.Path.{◌≡◌, refl, sym, ap, ◌∙◌}
use mathlib.Core.Bool.{Bool, true, false, cond}
use mathlib.Core.List.{List, [], ◌∷◌, ◌++◌, append_assoc, append-nil}
use Prim.Native.Nat.{ℕ, zero, suc, ◌+◌, ◌-◌, ◌*◌, ◌≤◌}
use native.Mathlib.Omega.{arith}
use lib.Dec.{eqb}
use lib.ListN.{length, take, drop, replicate, length-append}
use lib.Seq.{take-append-le, take-append_seam, take_all, length-take-le}
use borrow.Author.Tests.{eqb-true}
use Rattle.utf8.specs.Table.{well_formed, Text, empty, more, cut}
use Rattle.utf8.proofs.Pieces.{Sized, cut-sized, well_is, well_front, cut-zeros, form_nil}
use Rattle.lossy.specs.Lossy.{mark, first, passing, replaced, kept, trim, shown}

impossible : {A : Type 0} → true ≡ false → A
impossible e = absurd (let z : ◌≡◌ {A = ℕ} 0 1 = cc in omega arith)

-- ---- piece by piece
pub passing-drop : (l : List ℕ) (k : ℕ) → passing l k ≡ replaced (drop k l)
passing-drop [] zero = refl
passing-drop [] (suc k) = refl
passing-drop (x ∷ xs) zero = refl
passing-drop (x ∷ xs) (suc k) = passing-drop xs k

pub piece : (x : ℕ) (xs : List ℕ) → replaced (x ∷ xs) ≡ first (x ∷ xs) ++ replaced (drop (cut (x ∷ xs)).size (x ∷ xs))
piece x xs =
    let h : Sized (x ∷ xs) = cut-sized x xs in
    let e : (cut (x ∷ xs)).size ≡ suc ((cut (x ∷ xs)).size - 1) = omega arith in
    let d : drop (cut (x ∷ xs)).size (x ∷ xs) ≡ drop ((cut (x ∷ xs)).size - 1) xs = ap (λ (k : ℕ). drop k (x ∷ xs)) e in
    ap (λ (l : List ℕ). first (x ∷ xs) ++ l) (passing-drop xs ((cut (x ∷ xs)).size - 1) ∙ ap replaced (sym d))

-- an ill-formed maximal subpart gives one U+FFFD
pub ill_one : (x : ℕ) (xs : List ℕ) → (cut (x ∷ xs)).well ≡ false → replaced (x ∷ xs) ≡ mark ++ replaced (drop (cut (x ∷ xs)).size (x ∷ xs))
ill_one x xs e = piece x xs ∙ ap (λ (b : Bool). cond b (take (cut (x ∷ xs)).size (x ∷ xs)) mark ++ replaced (drop (cut (x ∷ xs)).size (x ∷ xs))) e

-- a well-formed sequence is left as it is
pub well-same : (x : ℕ) (xs : List ℕ) → (cut (x ∷ xs)).well ≡ true
    → replaced (x ∷ xs) ≡ take (cut (x ∷ xs)).size (x ∷ xs) ++ replaced (drop (cut (x ∷ xs)).size (x ∷ xs))
well-same x xs e = piece x xs ∙ ap (λ (b : Bool). cond b (take (cut (x ∷ xs)).size (x ∷ xs)) mark ++ replaced
    (drop (cut (x ∷ xs)).size (x ∷ xs))) e

-- ---- well-formed text comes through unchanged
drop_seam : (p l : List ℕ) → passing (p ++ l) (length p) ≡ replaced l
drop_seam [] l = refl
drop_seam (x ∷ p) l = drop_seam p l

one_through : (p l : List ℕ) → well_formed p ≡ true → replaced (p ++ l) ≡ p ++ replaced l
one_through [] l w = impossible (sym w ∙ form_nil)
one_through (x ∷ p) l w =
    let z : suc (length p) - 1 ≡ length p = omega arith in
    rw (well_front x p l w, take-append_seam p l, z, drop_seam p l)

pub unchanged : (l : List ℕ) → Text l → replaced l ≡ l
unchanged _ empty = refl
unchanged _ (more p l w t) = one_through p l w ∙ ap (λ (k : List ℕ). p ++ k) (unchanged l t)

-- ---- what stands there is well-formed text
mark-well : well_formed mark ≡ true
unfolding well_formed
mark-well = refl

first-well : (x : ℕ) (xs : List ℕ) → well_formed (first (x ∷ xs)) ≡ true
first-well x xs = go (cut (x ∷ xs)).well refl
  where
    go : (b : Bool) → (cut (x ∷ xs)).well ≡ b → well_formed (cond b (take (cut (x ∷ xs)).size (x ∷ xs)) mark) ≡ true
    go true e = well_is x xs e
    go false e = mark-well

passing-text : (l : List ℕ) (k : ℕ) → Text (passing l k)
passing-text [] k = empty
passing-text (x ∷ xs) (suc k) = passing-text xs k
passing-text (x ∷ xs) zero = more (first (x ∷ xs)) (passing xs ((cut (x ∷ xs)).size - 1)) (first-well x xs) (passing-text xs ((cut (x ∷ xs)).size - 1))

pub always_text : (l : List ℕ) → Text (replaced l)
always_text l = passing-text l 0

-- replacing again changes nothing more
pub once : (l : List ℕ) → replaced (replaced l) ≡ replaced l
once l = unchanged (replaced l) (always_text l)

-- ---- at most three times as long
pub first-length : (x : ℕ) (xs : List ℕ) → length (first (x ∷ xs)) ≡ cond (cut (x ∷ xs)).well (cut (x ∷ xs)).size 3
first-length x xs = go (cut (x ∷ xs)).well
  where
    go : (b : Bool) → length (cond b (take (cut (x ∷ xs)).size (x ∷ xs)) mark) ≡ cond b (cut (x ∷ xs)).size 3
    go true = length-take-le (cut (x ∷ xs)).size (x ∷ xs) (cut-sized x xs).in_size
    go false = refl

width-le : (b : Bool) (n : ℕ) → 1 ≤ n → cond b n 3 ≤ 3 * n
width-le true n h = omega arith
width-le false n h = omega arith

passing-length : (l : List ℕ) (k : ℕ) → length (passing l k) ≤ 3 * (length l - k)
passing-length [] k = omega arith
passing-length (x ∷ xs) (suc k) = omega (arith, passing-length xs k)
passing-length (x ∷ xs) zero =
    let h : Sized (x ∷ xs) = cut-sized x xs in
    let w : length (first (x ∷ xs)) ≤ 3 * (cut (x ∷ xs)).size =
    rw (first-length x xs) (width-le (cut (x ∷ xs)).well (cut (x ∷ xs)).size h.some_size) in
    let i : length (passing xs ((cut (x ∷ xs)).size - 1)) ≤ 3 * (length xs - ((cut (x ∷ xs)).size - 1)) = passing-length xs ((cut (x ∷ xs)).size - 1) in
    let a : length (first (x ∷ xs) ++ passing xs ((cut (x ∷ xs)).size - 1)) ≡ length (first (x ∷ xs)) + length (passing xs ((cut (x ∷ xs)).size - 1)) =
    length-append (first (x ∷ xs)) (passing xs ((cut (x ∷ xs)).size - 1)) in
    omega arith

pub three_times : (l : List ℕ) → length (replaced l) ≤ 3 * length l
three_times l = omega (arith, passing-length l 0)

-- ---- zero bytes at the end
trim-split : (l : List ℕ) → (n : ℕ) × (l ≡ trim l ++ replicate n 0)
trim-split [] = (0, refl)
trim-split (x ∷ xs) = go (trim xs) (trim-split xs)
  where
    zero_or : (n : ℕ) (b : Bool) → eqb x 0 ≡ b → xs ≡ replicate n 0 → (m : ℕ) × (x ∷ xs ≡ cond b [] (x ∷ []) ++ replicate m 0)
    zero_or n true q e = (suc n, rw (eqb-true x 0 q, e))
    zero_or n false q e = (n, ap (λ (l : List ℕ). x ∷ l) e)

    go : (t : List ℕ) → (n : ℕ) × (xs ≡ t ++ replicate n 0) → (n : ℕ) × (x ∷ xs ≡ kept x t ++ replicate n 0)
    go [] i = zero_or i.0 (eqb x 0) refl i.1
    go (y ∷ ys) i = (i.0, ap (λ (l : List ℕ). x ∷ l) i.1)

trim-again : (l : List ℕ) → trim (trim l) ≡ trim l
trim-again [] = refl
trim-again (x ∷ xs) = go (trim xs) (trim-again xs)
  where
    one : (b : Bool) → eqb x 0 ≡ b → trim (cond b [] (x ∷ [])) ≡ cond b [] (x ∷ [])
    one true q = refl
    one false q = rw q

    go : (t : List ℕ) → trim t ≡ t → trim (kept x t) ≡ kept x t
    go [] e = one (eqb x 0) refl
    go (y ∷ ys) e = ap (kept x) e

trim-nothing : (n : ℕ) → trim (replicate n 0) ≡ []
trim-nothing zero = refl
trim-nothing (suc n) = ap (kept 0) (trim-nothing n)

pub trim-zeros : (l : List ℕ) (n : ℕ) → trim (l ++ replicate n 0) ≡ trim l
trim-zeros [] n = trim-nothing n
trim-zeros (x ∷ xs) n = ap (kept x) (trim-zeros xs n)

kept_some : (x : ℕ) (l : List ℕ) → (l ≡ [] → ⊥) → kept x l ≡ x ∷ l
kept_some x [] h = absurd (h refl)
kept_some x (y ∷ ys) h = refl

append_some : (a b : List ℕ) → (b ≡ [] → ⊥) → a ++ b ≡ [] → ⊥
append_some [] b h e = h e
append_some (x ∷ a) b h e = let z : ◌≡◌ {A = ℕ} 0 1 = cc in omega arith

pub trim-behind : (a b : List ℕ) → trim b ≡ b → (b ≡ [] → ⊥) → trim (a ++ b) ≡ a ++ b
trim-behind [] b e h = e
trim-behind (x ∷ a) b e h = ap (kept x) (trim-behind a b e h) ∙ kept_some x (a ++ b) (append_some a b h)

trim-tail : (x : ℕ) (xs : List ℕ) → trim (x ∷ xs) ≡ x ∷ xs → trim xs ≡ xs
trim-tail x xs = go (trim xs)
  where
    one : (b : Bool) → cond b [] (x ∷ []) ≡ x ∷ xs → [] ≡ xs
    one true e = absurd (let z : ◌≡◌ {A = ℕ} 0 1 = cc in omega arith)
    one false e = cc

    go : (t : List ℕ) → kept x t ≡ x ∷ xs → t ≡ xs
    go [] e = one (eqb x 0) e
    go (y ∷ ys) e = cc

-- zero bytes come through
zeros-same : (n : ℕ) → replaced (replicate n 0) ≡ replicate n 0
unfolding cut
zeros-same zero = refl
zeros-same (suc n) = ap (λ (l : List ℕ). 0 ∷ l) (zeros-same n)

zeros-through : (l : List ℕ) (k n : ℕ) → k ≤ length l → passing (l ++ replicate n 0) k ≡ passing l k ++ replicate n 0
zeros-through [] zero n h = zeros-same n
zeros-through [] (suc k) n h = absurd (omega arith)
zeros-through (x ∷ xs) (suc k) n h = zeros-through xs k n (omega arith)
zeros-through (x ∷ xs) zero n h =
    let z : Sized (x ∷ xs) = cut-sized x xs in
    rw (
      cut-zeros x xs n,
      take-append-le (cut (x ∷ xs)).size (x ∷ xs) (replicate n 0)
          z.in_size,
      zeros-through xs ((cut (x ∷ xs)).size - 1) n (omega arith),
      append_assoc,
    )

-- a last byte that is not 0 stays one
passing_some : (l : List ℕ) (k : ℕ) → passing l k ≡ [] → length l ≤ k
passing_some [] k e = omega arith
passing_some (x ∷ xs) (suc k) e = omega (arith, passing_some xs k e)
passing_some (x ∷ xs) zero e =
    let n : length (first (x ∷ xs)) ≡ 0 = omega (arith, length-append (first (x ∷ xs)) (passing xs ((cut (x ∷ xs)).size - 1)), ap length e) in
    go (cut (x ∷ xs)).well (cut-sized x xs).some_size (sym (first-length x xs) ∙ n)
  where
    go : (b : Bool) → 1 ≤ (cut (x ∷ xs)).size → cond b (cut (x ∷ xs)).size 3 ≡ 0 → suc (length xs) ≤ 0
    go true s h = omega arith
    go false s h = omega arith

ends_through : (l : List ℕ) (k : ℕ) → trim l ≡ l → k ≤ length l → trim (passing l k) ≡ passing l k
ends_through [] k e h = refl
ends_through (x ∷ xs) (suc k) e h = ends_through xs k (trim-tail x xs e) (omega arith)
ends_through (x ∷ xs) zero e h =
    let z : Sized (x ∷ xs) = cut-sized x xs in
    go (passing xs ((cut (x ∷ xs)).size - 1)) (passing_some xs ((cut (x ∷ xs)).size - 1)) (ends_through xs ((cut (x ∷ xs)).size - 1) (trim-tail x xs e)
    (omega arith))
  where
    last : (b : Bool) → length xs ≤ (cut (x ∷ xs)).size - 1
        → trim (cond b (take (cut (x ∷ xs)).size (x ∷ xs)) mark) ≡ cond b (take (cut (x ∷ xs)).size (x ∷ xs)) mark
    last true a = let z : Sized (x ∷ xs) = cut-sized x xs in rw (take_all (cut (x ∷ xs)).size (x ∷ xs) (omega arith)) e
    last false a = refl

    go : (t : List ℕ) → (t ≡ [] → length xs ≤ (cut (x ∷ xs)).size - 1) → trim t ≡ t → trim (first (x ∷ xs) ++ t) ≡ first (x ∷ xs) ++ t
    go [] s i = rw append-nil (last (cut (x ∷ xs)).well (s refl))
    go (y ∷ ys) s i = trim-behind (first (x ∷ xs)) (y ∷ ys) i (λ q. let z : ◌≡◌ {A = ℕ} 0 1 = cc in omega arith)

-- zero bytes at the end may go before the pieces are replaced, too
pub trim-first : (l : List ℕ) → shown l ≡ replaced (trim l)
unfolding shown
trim-first l =
    let s : (n : ℕ) × (l ≡ trim l ++ replicate n 0) = trim-split l in
    ap (λ (k : List ℕ). trim (replaced k)) s.1
    ∙ ap trim (zeros-through (trim l) 0 s.0 (omega arith))
    ∙ trim-zeros (replaced (trim l)) s.0
    ∙ ends_through (trim l) 0 (trim-again l) (omega arith)

pub shown-text : (l : List ℕ) → Text (shown l)
shown-text l = rw (trim-first l) (always_text (trim l))

pub shown-length : (l : List ℕ) → length (shown l) ≤ 3 * length l
shown-length l =
    let s : (n : ℕ) × (l ≡ trim l ++ replicate n 0) = trim-split l in
    let a : length l ≡ length (trim l) + length {A = ℕ} (replicate s.0 0) = ap length s.1 ∙ length-append (trim l) (replicate s.0 0) in
    rw (trim-first l) (omega (arith, three_times (trim l)))
