-- The laws that the proofs of this crate and of its callers go by: from line to line. Assumes nothing.
use mathlib.Core.Bool.{Bool, true, false, cond}
use mathlib.Core.Path.{◌≡◌, refl, ap, ◌∙◌}
use mathlib.Core.List.{List, [], ◌∷◌}
use Prim.Native.Nat.{ℕ, zero, suc, ◌+◌, ◌-◌, ◌≤◌, ◌<◌}
use native.Mathlib.Omega.{arith}
use native.Mathlib.Decide.{dec_le}
use lib.Dec.{eqb}
use lib.ListN.{length, get_or, take, drop, length-drop}
use lib.Seq.{drop-drop, take_all}
use borrow.Author.Tests.{eqb-true, eq-eqb, ne_eqb}
use Rattle.text.specs.Text.{lines}
use Rattle.text.specs.Scan.{cut}
use Rattle.text.proofs.Laws.{next, done, tail, split-last, split-more}
use Rattle.text.proofs.Judging.{split_some}
use Rattle.readers.specs.Lines.{ended, lines_in, line_at, Follows, begins, of_kind}

-- ---- the first line of bytes
cut-within : (b : ℕ) (l : List ℕ) → cut b l ≤ length l
cut-within b [] = omega arith
cut-within b (x ∷ xs) = go (eqb x b) (cut-within b xs)
  where
    go : (t : Bool) → cut b xs ≤ length xs → cond t 0 (suc (cut b xs)) ≤ suc (length xs)
    go true ih = omega arith
    go false ih = omega arith

pub first_line : (l : List ℕ) → 0 < length l → lines_in l ≡ take (cut 0x0a l) l ∷ lines_in (drop (cut 0x0a l + 1) l)
first_line l some = go (dec_le (cut 0x0a l + 1) (length l))
  where
    on_to : (p : List ℕ) (ms : List (List ℕ)) → (ms ≡ [] → ⊥) → ended (p ∷ ms) ≡ p ∷ ended ms
    on_to p [] none = absurd (none refl)
    on_to p (m ∷ ms) none = refl

    alone : (p : List ℕ) → 0 < length p → ended (p ∷ []) ≡ p ∷ []
    alone [] q = absurd (omega arith)
    alone (x ∷ xs) q = refl

    go : Dec (cut 0x0a l + 1 ≤ length l) → lines_in l ≡ take (cut 0x0a l) l ∷ lines_in (drop (cut 0x0a l + 1) l)
    go (yes q) =
        ap ended (split-more 0x0a l (omega arith))
        ∙ on_to (take (cut 0x0a l) l) (lines (drop (cut 0x0a l + 1) l)) (split_some 0x0a (drop (cut 0x0a l + 1) l))
    go (no q) =
        let z : cut 0x0a l ≡ length l = omega (arith, q, cut-within 0x0a l) in
        let w : take (cut 0x0a l) l ≡ l = take_all (cut 0x0a l) l (omega arith) in
        rw (w, done l (cut 0x0a l + 1) (omega arith)) (ap ended (split-last 0x0a l z) ∙ alone l some)

-- at a place
pub line_first : (t : List ℕ) (at : ℕ) → at < length t → lines_in (drop at t) ≡ line_at t at ∷ lines_in (drop (cut 0x0a (drop at t) + 1) (drop at t))
line_first t at h = first_line (drop at t) (rw length-drop (omega arith))

-- ---- the next line
module _ (t : List ℕ) (at n : ℕ) (at_n : n ≡ cut 0x0a (take (length t - at) (drop at t))) (h : at < length t) where
  here : n ≡ cut 0x0a (drop at t)
  here = rw tail at at_n

  pub next_ended : n < length (take (length t - at) (drop at t)) → Follows t at (at + n + 1)
  next_ended short =
      let z : at + n + 1 ≡ at + (n + 1) = omega arith in
      record { says = rw (z, ← drop-drop (n + 1) at t, here) (line_first t at h) }

  pub next_last : length (take (length t - at) (drop at t)) ≤ n → Follows t at (length t)
  next_last long =
      let w : length (drop at t) ≤ n = rw tail at long in
      let y : drop (cut 0x0a (drop at t) + 1) (drop at t) ≡ [] = done (drop at t) (cut 0x0a (drop at t) + 1) (rw (← here) (omega arith)) in
      record { says = rw (done t (length t) (omega arith)) (rw y at (line_first t at h)) }

pub ruleset next_laws = (next_ended, next_last)

-- ---- the line at a place
pub line_past : (t : List ℕ) (at : ℕ) → length t < at → take 0 t ≡ line_at t at
line_past t at h = rw (done t at (omega arith))

pub line_there : (t : List ℕ) (at n : ℕ) → n ≡ cut 0x0a (take (length t - at) (drop at t))
    → take n (take (length t - at) (drop at t)) ≡ line_at t at
line_there t at n h = rw (h, tail)

pub ruleset line_laws = (line_past, line_there)

-- ---- what the line at a place begins with
pub begins_by : (b : ℕ) (t : List ℕ) (at : ℕ) → at < length t → begins b (line_at t at) ≡ eqb (get_or t at 0) b
begins_by b t at h = rw (next t at h) (go (get_or t at 0) (drop (at + 1) t))
  where
    go : (x : ℕ) (xs : List ℕ) → begins b (take (cut 0x0a (x ∷ xs)) (x ∷ xs)) ≡ eqb x b
    go x xs = by (eqb x 0x0a) refl
      where
        by : (m : Bool) → eqb x 0x0a ≡ m → begins b (take (cond m 0 (suc (cut 0x0a xs))) (x ∷ xs)) ≡ eqb x b
        by true e = let z : x ≡ 0x0a = eqb-true x 0x0a e in rw z
        by false e = refl

-- ---- line n of a kind: `left` more from `at` on
pub record Seeks (t : List ℕ) (kind n at left : ℕ) : Type 0 where
  pub inside : at ≤ length t
  pub gets : get_or (of_kind kind (lines_in t)) n [] ≡ get_or (of_kind kind (lines_in (drop at t))) left []

pub seeks_start : (t : List ℕ) (kind n : ℕ) → Seeks t kind n 0 n
seeks_start t kind n = record { inside = omega arith; gets = refl }

pub seeks_none : (t : List ℕ) (kind n at left : ℕ) → Seeks t kind n at left → length t ≤ at
    → take 0 t ≡ get_or (of_kind kind (lines_in t)) n []
seeks_none t kind n at left so_far h = rw (so_far.gets, done t at h)

module _ (t : List ℕ) (kind n at left : ℕ) (so_far : Seeks t kind n at left) (h : at < length t) where
  module _ (r : ℕ) (i : r ≤ length t) (f : Follows t at r) where
    pub seeks_pass : (get_or t at 0 ≡ kind → ⊥) → Seeks t kind n r left
    seeks_pass other = record {
      inside = i;
      gets = so_far.gets ∙ rw (f.says, begins_by kind t at h, ne_eqb _ _ other);
    }

    pub seeks_more : get_or t at 0 ≡ kind → (left ≡ 0 → ⊥) → Seeks t kind n r (left - 1)
    seeks_more is some = record { inside = i; gets = so_far.gets ∙ rw (f.says, begins_by kind t at h, eq-eqb _ _ is) (less left some) }
      where
        less : (m : ℕ) → (m ≡ 0 → ⊥)
            → get_or (line_at t at ∷ of_kind kind (lines_in (drop r t))) m [] ≡ get_or (of_kind kind (lines_in (drop r t))) (m - 1) []
        less zero none = absurd (none refl)
        less (suc m) none = let z : suc m - 1 ≡ m = omega arith in rw z

  pub seeks_found : (l : List ℕ) → get_or t at 0 ≡ kind → left ≡ 0 → l ≡ line_at t at → l ≡ get_or (of_kind kind (lines_in t)) n []
  seeks_found l is none e = rw (so_far.gets, line_first t at h, begins_by kind t at h, eq-eqb _ _ is, none) e

pub ruleset seeks_laws = (seeks_start, seeks_none, seeks_pass, seeks_more, seeks_found)

-- ---- line n: `left` more from `at` on
pub record Counts (t : List ℕ) (n at left : ℕ) : Type 0 where
  pub inside : at ≤ length t
  pub gets : get_or ([] ∷ lines_in t) n [] ≡ get_or (lines_in (drop at t)) left []

pub counts_zero : (t : List ℕ) (n : ℕ) → n ≡ 0 → take 0 t ≡ get_or ([] ∷ lines_in t) n []
counts_zero t n z = rw z

pub counts_start : (t : List ℕ) (n : ℕ) → (n ≡ 0 → ⊥) → Counts t n 0 (n - 1)
counts_start t zero some = absurd (some refl)
counts_start t (suc n) some = let z : suc n - 1 ≡ n = omega arith in record { inside = omega arith; gets = rw z }

pub counts_none : (t : List ℕ) (n at left : ℕ) → Counts t n at left → length t ≤ at → take 0 t ≡ get_or ([] ∷ lines_in t) n []
counts_none t n at left so_far h = rw (so_far.gets, done t at h)

module _ (t : List ℕ) (n at left : ℕ) (so_far : Counts t n at left) (h : at < length t) where
  pub counts_more : (r : ℕ) → r ≤ length t → Follows t at r → (left ≡ 0 → ⊥) → Counts t n r (left - 1)
  counts_more r i f some = record { inside = i; gets = so_far.gets ∙ rw f.says (less left some) }
    where
      less : (m : ℕ) → (m ≡ 0 → ⊥) → get_or (line_at t at ∷ lines_in (drop r t)) m [] ≡ get_or (lines_in (drop r t)) (m - 1) []
      less zero none = absurd (none refl)
      less (suc m) none = let z : suc m - 1 ≡ m = omega arith in rw z

  pub counts_found : (l : List ℕ) → left ≡ 0 → l ≡ line_at t at → l ≡ get_or ([] ∷ lines_in t) n []
  counts_found l none e = rw (so_far.gets, line_first t at h, none) e

pub ruleset counts_laws = (counts_zero, counts_start, counts_none, counts_more, counts_found)
