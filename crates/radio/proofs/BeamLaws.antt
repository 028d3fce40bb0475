-- Laws of the beam count. Assumes nothing.
use mathlib.Core.Path.{◌≡◌, refl, ◌∙◌}
use mathlib.Core.Bool.{Bool, true, false, cond, ◌&&◌, and-false}
use mathlib.Core.List.{List, [], ◌∷◌}
use Prim.Native.Nat.{ℕ, zero, suc, ◌+◌, ◌-◌, ◌*◌, ◌/◌, ◌%◌, ◌≤◌, ◌<◌}
use native.Mathlib.Nat.{add-zero}
use native.Mathlib.Omega.{arith}
use lib.Dec.{eqb, leb}
use lib.ListN.{length, get_or, take, drop, length-drop}
use lib.Seq.{length-take-le, get_or-take, drop-drop}
use borrow.Author.Tests.{le-leb, lt-ltb, le-ltb, eq-eqb, ne_eqb}
use Rattle.laws.proofs.Lists.{next, done}
use Rattle.radio.specs.declared.beam.BeamTarget.{BeamTarget}
use Rattle.radio.specs.Beam.{starts_with, width_of, again, beams_of, told_by, ordinary_target, long_target, target_of}

-- ---- the first bytes at a place
too_short : (f l : List ℕ) → length l < length f → starts_with f l ≡ false
too_short [] l h = absurd (omega arith)
too_short (x ∷ xs) [] h = refl
too_short (x ∷ xs) (y ∷ ys) h = rw (too_short xs ys (omega arith), and-false) refl

module _ (m : List ℕ) (at w : ℕ) where
  -- what the answer is to be
  abbrev asked : Bool
  asked = eqb (get_or m at 0) 0x55 && starts_with (take w m) (drop at m)

  pub no_marker : (get_or m at 0 ≡ 0x55 → ⊥) → false ≡ asked
  no_marker h = rw (ne_eqb (get_or m at 0) 0x55 h) refl

  pub no_room : w ≤ length m → length m - at < w → false ≡ asked
  no_room in-m h = rw (too_short (take w m) (drop at m) (rw (length-drop, length-take-le w m in-m) h), and-false) refl

  -- the first i bytes are the same
  pub record Same (i : ℕ) : Type 0 where
    pub rest : starts_with (take w m) (drop at m) ≡ starts_with (drop i (take w m)) (drop (at + i) m)
    pub few : i ≤ w

  pub same_starts : Same 0
  same_starts = record { rest = rw add-zero refl; few = omega arith }

  module _ (i : ℕ) (s : Same i) (in-m : w ≤ length m) (more : i < w) (room : w ≤ length m - at) where
    here : starts_with (take w m) (drop at m) ≡ eqb (get_or m i 0) (get_or m (at + i) 0) && starts_with (drop (i + 1) (take w m)) (drop (at + i + 1) m)
    here =
        let f : drop i (take w m) ≡ get_or m i 0 ∷ drop (i + 1) (take w m) =
        rw (← get_or-take w m i 0 more) (next (take w m) i (rw (length-take-le w m in-m) more)) in
        s.rest ∙ rw (f, next m (at + i) (omega arith)) refl

    pub same_differs : (get_or m i 0 ≡ get_or m (at + i) 0 → ⊥) → false ≡ asked
    same_differs h = rw (here, ne_eqb (get_or m i 0) (get_or m (at + i) 0) h, and-false) refl

    pub same_more : get_or m i 0 ≡ get_or m (at + i) 0 → Same (i + 1)
    same_more h =
        let e : at + (i + 1) ≡ at + i + 1 = omega arith in
        record { rest = here ∙ rw (eq-eqb (get_or m i 0) (get_or m (at + i) 0) h, e) refl; few = omega arith }

  pub same-all : (i : ℕ) → Same i → w ≤ length m → w ≤ i → get_or m at 0 ≡ 0x55 → true ≡ asked
  same-all i s in-m all marker =
      rw (eq-eqb (get_or m at 0) 0x55 marker, s.rest, done (take w m) i (rw (length-take-le w m in-m) all)) refl

-- ---- the count
skip : (f : List ℕ) (k : ℕ) (l : List ℕ) → again f k l ≡ again f 0 (drop k l)
skip f zero l = refl
skip f (suc k) [] = refl
skip f (suc k) (x ∷ xs) = skip f k xs

some_width : (rate n : ℕ) → 0 < n → 0 < width_of rate n
some_width rate n h = go (eqb rate 3)
  where
    least : (a : ℕ) (t : Bool) → 0 < a → 0 < cond t a n
    least a true l = l
    least a false l = h

    go : (t : Bool) → 0 < cond (leb (cond t 4 3) n) (cond t 4 3) n
    go true = least 4 (leb 4 n) (omega arith)
    go false = least 3 (leb 3 n) (omega arith)

-- counted so far, and what is still to be counted
pub record Beaming (m : List ℕ) (w count at : ℕ) : Type 0 where
  pub sum : count + again (take w m) 0 (drop at m) ≡ 1 + again (take w m) 0 (drop w m)
  pub low : count ≤ at + 1

pub beaming_starts : (m : List ℕ) (w : ℕ) → Beaming m w 1 w
beaming_starts m w = record { sum = refl; low = omega arith }

pub beams_all : (rate : ℕ) (m : List ℕ) (w count at : ℕ) → Beaming m w count at → w ≡ width_of rate (length m) → length m ≤ at
    → count ≡ beams_of rate m
unfolding beams_of
beams_all rate m w count at b e end =
    let sum : count ≡ 1 + again (take w m) 0 (drop w m) = omega (arith, rw (done m at end) at b.sum) in
    rw (← e) sum

module _ (rate : ℕ) (m : List ℕ) (w count at : ℕ) (t : Bool) (b : Beaming m w count at) (e : w ≡ width_of rate (length m)) (in-m : w ≤ length m)
    (more : at < length m) (is-t : t ≡ asked m at w) where
  here_again : again (take w m) 0 (drop at m) ≡ cond t (again (take w m) 0 (drop (at + w) m) + 1) (again (take w m) 0 (drop (at + 1) m))
  here_again =
      let n = next m at more in
      let some : 0 < w = rw e (some_width rate (length m) (omega arith)) in
      let on : at + 1 + (length (take w m) - 1) ≡ at + w = rw (length-take-le w m in-m) (omega arith) in
      let jump : again (take w m) (length (take w m) - 1) (drop (at + 1) m) ≡ again (take w m) 0 (drop (at + w) m) =
      skip (take w m) (length (take w m) - 1) (drop (at + 1) m) ∙ rw (drop-drop, on) refl in
      rw (is-t, n, jump) refl

  pub beaming_hit : t ≡ true → Beaming m w (count + 1) (at + w)
  beaming_hit yes-t =
      let some : 0 < w = rw e (some_width rate (length m) (omega arith)) in
      record { sum = omega (arith, b.sum, rw yes-t at here_again); low = omega (arith, b.low) }

  pub beaming_miss : t ≡ false → Beaming m w count (at + 1)
  beaming_miss no-t = record { sum = omega (arith, b.sum, rw no-t at here_again); low = omega (arith, b.low) }

  pub beaming_nearer : length m - (at + w) < length m - at
  beaming_nearer = let some : 0 < w = rw e (some_width rate (length m) (omega arith)) in omega arith

-- ---- is there a repetition
module _ (rate : ℕ) (m : List ℕ) (w at : ℕ) (b : Beaming m w 1 at) (e : w ≡ width_of rate (length m)) where
  pub repeated : (t : Bool) → w ≤ length m → at < length m → t ≡ asked m at w → t ≡ true → true ≡ leb 2 (beams_of rate m)
  unfolding beams_of
  repeated t in-m more is-t yes-t =
      let hit = beaming_hit rate m w 1 at t b e in-m more is-t yes-t in
      let twice : 2 ≤ 1 + again (take w m) 0 (drop w m) = omega (arith, hit.sum) in
      rw (← e, le-leb 2 (1 + again (take w m) 0 (drop w m)) twice) refl

  pub unrepeated : length m ≤ at → false ≡ leb 2 (beams_of rate m)
  unrepeated end = rw (← beams_all rate m w 1 at b e end) refl

-- ---- whom a beam wakes
module _ (m : List ℕ) where
  pub told-not : (at n : ℕ) → length m ≤ at → 0 ≡ told_by at m n
  told-not at n short = rw (le-ltb at (length m) short) refl

  pub told_byte : (at r : ℕ) → at < length m → r ≡ get_or m at 0 + 1 → r ≡ told_by at m (get_or m at 0)
  told_byte at r more is-r = rw (lt-ltb at (length m) more) is-r

  pub ordinary_is : (node hash : ℕ) → node ≡ told_by 1 m (get_or m 1 0) → hash ≡ told_by 2 m (get_or m 2 0)
      → record { node = node; hash = hash; power = 0 } ≡ ordinary_target m
  ordinary_is node hash is-node is-hash = rw (is-node, is-hash) refl

  module _ (hash : ℕ) (is-hash : hash ≡ told_by 3 m (get_or m 3 0)) where
    pub long-cut : length m ≤ 2 → record { node = 0; hash = hash; power = 0 } ≡ long_target m
    long-cut short = rw (is-hash, le-ltb 2 (length m) short) refl

    pub long_is : (n : ℕ) → 2 < length m → n ≡ get_or m 1 0 * 256 + get_or m 2 0
        → record { node = n % 4096 + 1; hash = hash; power = n / 4096 + 1 } ≡ long_target m
    long_is n more is-n = rw (is-hash, is-n, lt-ltb 2 (length m) more) refl

  module _ (rate : ℕ) (t : BeamTarget) where
    pub target_long : rate ≡ 3 → t ≡ long_target m → t ≡ target_of rate m
    unfolding target_of
    target_long e is-t = rw (eq-eqb rate 3 e) is-t

    pub target_ordinary : (rate ≡ 3 → ⊥) → t ≡ ordinary_target m → t ≡ target_of rate m
    unfolding target_of
    target_ordinary e is-t = rw (ne_eqb rate 3 e) is-t

-- ---- how high the count can be
again-low : (first : List ℕ) (k : ℕ) (l : List ℕ) → again first k l ≤ length l
again-low first k [] = omega arith
again-low first (suc k) (x ∷ xs) = omega (arith, again-low first k xs)
again-low first zero (x ∷ xs) =
    go (eqb x 0x55 && starts_with first (x ∷ xs)) (again first (length first - 1) xs) (again first 0 xs) (again-low first (length first - 1) xs)
    (again-low first 0 xs)
  where
    go : (t : Bool) (a b : ℕ) → a ≤ length xs → b ≤ length xs → cond t (a + 1) b ≤ length (x ∷ xs)
    go true a b la lb = omega arith
    go false a b la lb = omega arith

pub beams_low : (rate : ℕ) (m : List ℕ) → (0 < beams_of rate m) × (beams_of rate m ≤ 1 + length m)
unfolding beams_of
beams_low rate m =
    let w = width_of rate (length m) in
    (omega arith, omega (arith, again-low (take w m) 0 (drop w m), length-drop w m))

pub ruleset beam_laws = (
  no_marker,
  no_room,
  same_starts,
  same_differs,
  same_more,
  same-all,
  beaming_starts,
  beams_all,
  beaming_hit,
  beaming_miss,
  beaming_nearer,
  repeated,
  unrepeated,
  told-not,
  told_byte,
  ordinary_is,
  long-cut,
  long_is,
  target_long,
  target_ordinary,
)
