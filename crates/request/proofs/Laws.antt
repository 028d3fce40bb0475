-- Laws of the words of a request. Assumes nothing.
use mathlib.Core.Path.{◌≡◌, refl, sym, ap, ◌∙◌}
use mathlib.Core.Bool.{Bool, true, false, cond, ◌&&◌, and-false}
use mathlib.Core.List.{List, [], ◌∷◌, ◌++◌, append_assoc, append-nil}
use Prim.Native.Nat.{ℕ, zero, suc, ◌+◌, ◌-◌, ◌*◌, ◌/◌, ◌^◌, ◌≤◌, ◌<◌}
use native.Mathlib.Numerals.{add-one}
use native.Mathlib.Omega.{arith}
use lib.Dec.{ltb}
use lib.ListN.{length, get_or, set, take, drop, length-set, length-append, length-drop}
use lib.Seq.{take-suc-set, length-take-le, take_at, drop_at}
use mir.Syntax.{w64}
use mir.Val.{Fits}
use borrow.Author.Tests.{le-leb, lt-leb, lt-ltb, le-ltb, ltb-true, leb-false}
use Rattle.laws.proofs.Lists.{next, done, tail}
use Rattle.text.specs.Text.{missing}
use Rattle.text.specs.Scan.{cut}
use Rattle.text.proofs.Laws.{front_count}
use Rattle.numerals.specs.Numbers.{value_of}
use Rattle.request.specs.Request.{led, leading_of, digit_of, Decoded, bytes, none, onto, pairs_of, bytes_of}
use Rattle.request.specs.Request.{paired, further, two_of, fitting, Decodes, first_of, second_of, fitting_both, InBoth, DecodesBoth}
use Rattle.std.specs.Prelude.{Option, Some, None}

-- ---- a number that others follow
module _ (s : List ℕ) (e : ℕ) (at-e : e ≡ cut 0x20 s) where
  pub leading_alone : e ≡ length s → None ≡ leading_of s
  leading_alone l = rw (← at-e, le-ltb e (length s) (omega arith))

  module _ (r : Option ℕ) (first : r ≡ value_of (take e s)) (inside : e ≤ length s) (more : e ≡ length s → ⊥) where
    pub leading_not : r ≡ None → None ≡ leading_of s
    leading_not n = rw (← at-e, lt-ltb e (length s) (omega arith), ← first, n)

    pub leading_is : (v : ℕ) → r ≡ Some v → Some (v, (e + 1)) ≡ leading_of s
    leading_is v n = rw (← at-e, lt-ltb e (length s) (omega arith), ← first, n)

-- where the others start, there are such
pub leading_inside : (s : List ℕ) (r : Option (ℕ × ℕ)) (v at : ℕ) → r ≡ leading_of s → r ≡ Some (v, at) → at ≤ length s
leading_inside s r v at is e = go (ltb (cut 0x20 s) (length s)) (value_of (take (cut 0x20 s) s)) (ltb-true (cut 0x20 s) (length s)) (sym is ∙ e)
  where
    go : (t : Bool) (n : Option ℕ) → (t ≡ true → cut 0x20 s < length s) → cond t (led n (cut 0x20 s + 1)) None ≡ Some (v, at) → at ≤ length s
    go true (Some m) inside q = let z : ◌≡◌ {A = ℕ × ℕ} (m, cut 0x20 s + 1) (v, at) = cc in omega (arith, ap (λ p. p.1) z, inside refl)
    go true None inside q = absurd (let z : ◌≡◌ {A = ℕ} 0 1 = cc in omega arith)
    go false n inside q = absurd (let z : ◌≡◌ {A = ℕ} 0 1 = cc in omega arith)

-- ---- a hex digit
module _ (x : ℕ) where
  pub digit-below : x < 48 → 16 ≡ digit_of x
  digit-below h = rw (lt-leb 48 x h, lt-leb 97 x (omega arith))

  pub digit-decimal : 48 ≤ x → x ≤ 57 → x - 48 ≡ digit_of x
  digit-decimal l u = rw (le-leb 48 x l, le-leb x 57 u)

  pub digit-between : 48 ≤ x → 57 < x → x < 97 → 16 ≡ digit_of x
  digit-between l u h = rw (le-leb 48 x l, lt-leb x 57 u, lt-leb 97 x h)

  pub digit-letter : 48 ≤ x → 57 < x → 97 ≤ x → x ≤ 102 → x - 87 ≡ digit_of x
  digit-letter l u h v = rw (le-leb 48 x l, lt-leb x 57 u, le-leb 97 x h, le-leb x 102 v)

  pub digit_above : 48 ≤ x → 57 < x → 97 ≤ x → 102 < x → 16 ≡ digit_of x
  digit_above l u h v = rw (le-leb 48 x l, lt-leb x 57 u, le-leb 97 x h, lt-leb x 102 v)

-- ---- pairs of hex digits
-- an odd number of digits
odd-none : (w : List ℕ) (k : ℕ) → length w ≡ k * 2 + 1 → pairs_of w ≡ none
odd-none [] k h = absurd (omega arith)
odd-none (x ∷ []) k h = refl
odd-none (x ∷ y ∷ l) zero h = absurd (omega arith)
odd-none (x ∷ y ∷ l) (suc k) h = go (ltb (digit_of x) 16 && ltb (digit_of y) 16) (pairs_of l) (odd-none l k (omega arith))
  where
    go : (t : Bool) (d : Decoded) → d ≡ none → cond t (onto ((digit_of x * 16 + digit_of y) ∷ []) d) none ≡ none
    go true d e = rw e
    go false d e = refl

pub pairs-odd : (w held : List ℕ) → (length w ≡ length w / 2 * 2 → ⊥) → Decodes (pairs_of w) held None
pairs-odd w held h = rw (odd-none w (length w / 2) (omega arith))

-- more bytes than there is room for
long-none : (w : List ℕ) (room : ℕ) → room * 2 < length w → fitting room (pairs_of w) ≡ false
long-none [] room h = absurd (omega arith)
long-none (x ∷ []) room h = refl
long-none (x ∷ y ∷ l) room h = go (ltb (digit_of x) 16 && ltb (digit_of y) 16) room h (λ (k : ℕ) (less : k * 2 < length l). long-none l k less)
  where
    one : (room : ℕ) (d : Decoded) → fitting room d ≡ false → fitting (suc room) (onto ((digit_of x * 16 + digit_of y) ∷ []) d) ≡ false
    one room (bytes l) e = lt-leb (suc (length l)) (suc room) (omega (arith, leb-false (length l) room e))
    one room none e = refl

    no_room : (d : Decoded) → fitting 0 (onto ((digit_of x * 16 + digit_of y) ∷ []) d) ≡ false
    no_room (bytes l) = lt-leb (suc (length l)) 0 (omega arith)
    no_room none = refl

    go : (t : Bool) (room : ℕ) → room * 2 < suc (suc (length l)) → ((k : ℕ) → k * 2 < length l → fitting k (pairs_of l) ≡ false)
        → fitting room (cond t (onto ((digit_of x * 16 + digit_of y) ∷ []) (pairs_of l)) none) ≡ false
    go true zero h ih = no_room (pairs_of l)
    go true (suc room) h ih = one room (pairs_of l) (ih room (omega arith))
    go false room h ih = refl

pub pairs-long : (w held : List ℕ) → length held < length w / 2 → Decodes (pairs_of w) held None
pairs-long w held h = long-none w (length held) (omega arith)

onto-onto : (a b : List ℕ) (d : Decoded) → onto a (onto b d) ≡ onto (a ++ b) d
onto-onto a b (bytes l) = ap bytes (sym (append_assoc a b l))
onto-onto a b none = refl

-- i of n bytes are decoded
pub record Pairing (w held : List ℕ) (room n i : ℕ) : Type 0 where
  pub all : pairs_of w ≡ onto (take i held) (pairs_of (drop (i * 2) w))
  pub within : i ≤ n
  pub same : length held ≡ room

pub pairing_starts : (w held : List ℕ) (n : ℕ) → Pairing w held (length held) n 0
pairing_starts w held n = record { all = from-none (pairs_of w); within = omega arith; same = refl }
  where
    from-none : (d : Decoded) → d ≡ onto [] d
    from-none (bytes l) = refl
    from-none none = refl

module _ (w held : List ℕ) (room n i : ℕ) (p : Pairing w held room n i) (even : length w ≡ n * 2) (fits : n ≤ room) where
  pub pairs-held : n ≤ length held
  pairs-held = omega (arith, p.same)

  pub pairs_done : n ≤ i → pairs_of w ≡ bytes (take n held)
  pairs_done u =
      let e : i ≡ n = omega (arith, p.within) in
      let end : drop (n * 2) w ≡ [] = done w (n * 2) (omega arith) in
      p.all ∙ rw (e, end, append-nil)

  module _ (high : ℕ) (is-high : high ≡ digit_of (get_or w (i * 2) 0)) (more : i < n) where
    left : drop (i * 2) w ≡ get_or w (i * 2) 0 ∷ get_or w (i * 2 + 1) 0 ∷ drop ((i + 1) * 2) w
    left =
        let e : (i + 1) * 2 ≡ i * 2 + 1 + 1 = omega arith in
        next w (i * 2) (omega arith) ∙ rw (e, next w (i * 2 + 1) (omega arith))

    pub pairs_high : 16 ≤ high → Decodes (pairs_of w) held None
    pairs_high h = rw (p.all, left, ← is-high, le-ltb high 16 h)

    module _ (low : ℕ) (is-low : low ≡ digit_of (get_or w (i * 2 + 1) 0)) (small : high < 16) where
      pub pairs-low : 16 ≤ low → Decodes (pairs_of w) held None
      pairs-low h = rw (p.all, left, ← is-high, ← is-low, lt-ltb high 16 small, le-ltb low 16 h)

      pub pairing_more : low < 16 → Pairing w (set held i (high * 16 + low)) room n (i + 1)
      pairing_more h =
          let byte = high * 16 + low in
          let e : take (i + 1) (set held i byte) ≡ take i held ++ (byte ∷ []) = rw add-one (take-suc-set held i byte (omega (arith, p.same))) in
          record {
            all = rw (p.all, left, ← is-high, ← is-low, lt-ltb high 16 small, lt-ltb low 16 h, e)
                (onto-onto (take i held) (byte ∷ []) (pairs_of (drop ((i + 1) * 2) w)));
            within = omega arith;
            same = rw length-set p.same;
          }

-- ---- the bytes of a word
module _ (w held : List ℕ) where
  pub bytes-empty : length w ≡ 0 → Decodes (bytes_of w) held None
  bytes-empty e = go w e
    where
      go : (w : List ℕ) → length w ≡ 0 → fitting (length held) (bytes_of w) ≡ false
      go [] e = refl
      go (x ∷ l) e = absurd (omega arith)

  module _ (d : Bool) (is-dash : d ≡ missing w) where
    pub bytes-none : d ≡ true → bytes_of w ≡ bytes []
    bytes-none e = go w (sym is-dash ∙ e)
      where
        go : (w : List ℕ) → missing w ≡ true → bytes_of w ≡ bytes []
        go [] t = cc
        go (x ∷ l) t = rw t

    pub bytes-pairs : (r : Option ℕ) → (length w ≡ 0 → ⊥) → d ≡ false → Decodes (pairs_of w) held r → Decodes (bytes_of w) held r
    bytes-pairs r some e told = rw (same w some (sym is-dash ∙ e)) told
      where
        same : (w : List ℕ) → (length w ≡ 0 → ⊥) → missing w ≡ false → bytes_of w ≡ pairs_of w
        same [] n t = absurd (n refl)
        same (x ∷ l) n t = rw t

-- the bytes that are decoded lie in the buffer
pub decoded-inside : (d : Decoded) (held : List ℕ) (r : Option ℕ) (n : ℕ) → Decodes d held r → r ≡ Some n → n ≤ length held
decoded-inside d held (Some m) n told e = let z : m ≡ n = cc in rw (← z) told.0
decoded-inside d held None n told e = absurd (let z : ◌≡◌ {A = ℕ} 0 1 = cc in omega arith)

-- ---- two words of bytes
-- there is no second word
pub both-alone : (w held : List ℕ) (e : ℕ) → e ≡ cut 0x20 w → e ≡ length w → DecodesBoth (first_of w) (second_of w) held None
both-alone w held e at-e l =
    let end : drop (cut 0x20 w + 1) w ≡ [] = done w (cut 0x20 w + 1) (omega arith) in
    rw end (go (first_of w))
  where
    go : (a : Decoded) → fitting_both (length held) a none ≡ false
    go (bytes l) = rw and-false
    go none = refl

module _ (w held : List ℕ) (e : ℕ) (at-e : e ≡ cut 0x20 w) (r : Option ℕ) (told : Decodes (bytes_of (take e w)) held r) where
  pub both_first : r ≡ None → DecodesBoth (first_of w) (second_of w) held None
  both_first is = rw (← at-e) (go (bytes_of (take e w)) (bytes_of (drop (e + 1) w)) (rw is at told))
    where
      go : (a b : Decoded) → fitting (length held) a ≡ false → fitting_both (length held) a b ≡ false
      go (bytes l) b f = rw f
      go none b f = refl

  -- the second's bytes go into the rest of the buffer, which is ys then
  module _ (n : ℕ) (are : r ≡ Some n) (ys : List ℕ) (kept : length ys ≡ length (take (length held - n) (drop n held))) (q : Option ℕ)
      (next : Decodes (bytes_of (take (length w - (e + 1)) (drop (e + 1) w))) ys q) where
    first : (n ≤ length held) × (bytes_of (take e w) ≡ bytes (take n held))
    first = rw are at told

    same : length ys ≡ length held - n
    same = kept ∙ rw (tail held n, length-drop)

    abbrev after : List ℕ
    after = take n held ++ (ys ++ drop (length held - n) (drop n held))

    front : after ≡ take n held ++ ys
    front = let end : drop (length held - n) (drop n held) ≡ [] = done (drop n held) (length held - n) (rw length-drop (omega arith)) in rw (end, append-nil)

    long : length (take n held) ≡ n
    long = length-take-le n held first.0

    whole : length (take n held ++ ys) ≡ length held
    whole = rw (length-append, long, same) (omega (arith, first.0))

    then : Decodes (second_of w) ys q
    then = rw (tail w (e + 1), at-e) at next

    start : first_of w ≡ bytes (take n held)
    start = rw (← at-e) first.1

    pub both-second : q ≡ None → DecodesBoth (first_of w) (second_of w) after None
    both-second is =
        let f : fitting (length ys) (second_of w) ≡ false = rw is at then in
        rw (front, whole, start, long, ← same, f, and-false)

    pub both-fits : (m : ℕ) (lent : List ℕ) → q ≡ Some m → length held ≡ length lent → length lent * 1 < 2 ^ 63 → Fits w64 (n + m)
    both-fits m lent is l room =
        let second : (m ≤ length ys) × (second_of w ≡ bytes (take m ys)) = rw is at then in
        omega (arith, second.0, first.0, same)

    pub both_are : (m : ℕ) → q ≡ Some m → InBoth (first_of w) (second_of w) after n (n + m)
    both_are m is =
        let second : (m ≤ length ys) × (second_of w ≡ bytes (take m ys)) = rw is at then in
        let less : n + m - n ≡ m = omega arith in
        rw front (record {
          ordered = omega arith;
          inside = rw whole (omega (arith, second.0, first.0, same));
          first = rw (take_at (take n held) ys n long) start;
          second = rw (less, drop_at (take n held) ys n long) second.1;
        })

-- the bytes of both words that are decoded lie in the buffer
module _ (a b : Decoded) (held : List ℕ) (r : Option (ℕ × ℕ)) (n e : ℕ) (told : DecodesBoth a b held r) (is : r ≡ Some (n, e)) where
  both : InBoth a b held n e
  both = rw is at told

  pub both_ordered : n ≤ e
  both_ordered = both.ordered

  pub both-inside : e ≤ length held
  both-inside = both.inside

  pub both_starts : n ≤ length held
  both_starts = omega (arith, both.ordered, both.inside)

-- ---- two words of bytes, of which the first n to e are lent too
pub taken_before : (s : List ℕ) (n e : ℕ) → n ≤ e → e ≤ length s → n ≡ length (take n s)
taken_before s n e l h = front_count s n (omega arith)

-- ---- two numbers that others follow
module _ (s : List ℕ) (r : Option (ℕ × ℕ)) (first : r ≡ leading_of s) where
  pub two_none : r ≡ None → None ≡ two_of s
  two_none e = rw (← first, e)

  module _ (v at : ℕ) (is : r ≡ Some (v, at)) (q : Option (ℕ × ℕ)) (next : q ≡ leading_of (take (length s - at) (drop at s))) where
    rest_is : q ≡ leading_of (drop at s)
    rest_is = rw (tail s at) at next

    pub two_one : q ≡ None → None ≡ two_of s
    two_one e = rw (← first, is, ← rest_is, e)

    module _ (w from : ℕ) (also : q ≡ Some (w, from)) where
      pub two_are : Some (v, w, (at + from)) ≡ two_of s
      two_are = rw (← first, is, ← rest_is, also)

      pub two_fits : length s * 1 < 2 ^ 63 → Fits w64 (at + from)
      two_fits room =
          let rest = leading_inside (drop at s) q w from rest_is also in
          omega (arith, leading_inside s r v at first is, rw length-drop at rest)

-- where the others start, there are such
pub two_words : (s : List ℕ) (r : Option (ℕ × ℕ × ℕ)) (v w at : ℕ) → r ≡ two_of s → r ≡ Some (v, w, at) → at ≤ length s
two_words s r v w at is e = one (leading_of s) (λ n m h. leading_inside s (leading_of s) n m refl h) (sym is ∙ e)
  where
    two : (n m : ℕ) (q : Option (ℕ × ℕ)) → m ≤ length s → ((k from : ℕ) → q ≡ Some (k, from) → from ≤ length (drop m s))
        → paired n m q ≡ Some (v, w, at) → at ≤ length s
    two n m (Some (k, from)) few inside h =
        let both : ◌≡◌ {A = ℕ × ℕ × ℕ} (n, k, m + from) (v, w, at) = cc in
        let z : m + from ≡ at = ap (λ p. p.2) both in
        omega (arith, inside k from refl, length-drop m s)
    two n m None few inside h = absurd (let z : ◌≡◌ {A = ℕ} 0 1 = cc in omega arith)

    one : (p : Option (ℕ × ℕ)) → ((n m : ℕ) → p ≡ Some (n, m) → m ≤ length s) → further s p ≡ Some (v, w, at) → at ≤ length s
    one (Some (n, m)) inside h =
        two n m (leading_of (drop m s)) (inside n m refl) (λ k from t. leading_inside (drop m s) (leading_of (drop m s)) k from refl t) h
    one None inside h = absurd (let z : ◌≡◌ {A = ℕ} 0 1 = cc in omega arith)

pub ruleset two_laws = (taken_before, two_none, two_one, two_are, two_fits, two_words)

pub ruleset request_laws = (
  leading_alone,
  leading_not,
  leading_is,
  leading_inside,
  digit-below,
  digit-decimal,
  digit-between,
  digit-letter,
  digit_above,
  pairs-odd,
  pairs-long,
  pairing_starts,
  pairs-held,
  pairs_done,
  pairs_high,
  pairs-low,
  pairing_more,
  bytes-empty,
  bytes-none,
  bytes-pairs,
  decoded-inside,
  front_count,
  both-alone,
  both_first,
  both-second,
  both-fits,
  both_are,
  both_ordered,
  both-inside,
  both_starts,
)

-- The laws that the proofs of this crate's functions go by.
pub ruleset laws = (request_laws, two_laws)
