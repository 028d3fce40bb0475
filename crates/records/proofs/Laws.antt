-- Laws of the records of a payload. Assumes nothing.
use mathlib.Core.Path.{◌≡◌, refl, sym, ap, ◌∙◌}
use mathlib.Core.Bool.{Bool, true, false, cond, ◌&&◌, and-false}
use mathlib.Core.List.{List, [], ◌∷◌}
use Prim.Native.Nat.{ℕ, zero, suc, ◌+◌, ◌-◌, ◌*◌, ◌^◌, ◌≤◌, ◌<◌}
use mir.Syntax.{w64}
use mir.Val.{Fits}
use native.Mathlib.Omega.{arith}
use lib.Dec.{eqb, ltb}
use lib.ListN.{length, get_or, take, drop}
use borrow.Author.Tests.{le-ltb, lt-ltb, le-leb, lt-leb, eq-eqb, ne_eqb, eqb-true, ltb-true}
use Rattle.laws.proofs.Bools.{and_left, and_right}
use Rattle.records.specs.declared.Span.{Span}
use Rattle.records.specs.Records.{stands, record_at, body_of, up_to, bodies_from, bodies, Counts, span_of, PartOf}
use Rattle.refusal.specs.declared.Refusal.TheVariants.{TooLong}
use denote.Ref.{Bor}
use Rattle.records.specs.Steps.{IsBody, Leads, Follows}
use Rattle.std.specs.Prelude.{Option, Some, None, Ok, Err}

-- ---- what stands at a place, test by test
module _ (s : List ℕ) (at : ℕ) where
  pub stop_few : length s ≤ 4 → None ≡ record_at s at
  stop_few few = rw (le-ltb 4 (length s) few)

  pub stop_past : 4 < length s → length s ≤ at → None ≡ record_at s at
  stop_past some past = rw (lt-ltb 4 (length s) some, le-ltb at (length s) past)

  pub stop_end : 4 < length s → at < length s → length s ≤ at + get_or s at 0 → None ≡ record_at s at
  stop_end some inside past = rw (lt-ltb 4 (length s) some, lt-ltb at (length s) inside, le-ltb (at + get_or s at 0) (length s) past)

  module _ (some : 4 < length s) (inside : at < length s) (end : at + get_or s at 0 < length s) where
    pub stop_open : (get_or s (at - 1) 0 ≡ 0x5B → ⊥) → None ≡ record_at s at
    stop_open opened =
        rw (lt-ltb 4 (length s) some, lt-ltb at (length s) inside, lt-ltb (at + get_or s at 0) (length s) end, ne_eqb (get_or s (at - 1) 0) 0x5B opened)

    module _ (opened : get_or s (at - 1) 0 ≡ 0x5B) where
      pub stop_close : (get_or s (at + get_or s at 0) 0 ≡ 0x5D → ⊥) → None ≡ record_at s at
      stop_close closed = rw (
        lt-ltb 4 (length s) some,
        lt-ltb at (length s) inside,
        lt-ltb (at + get_or s at 0) (length s) end,
        eq-eqb
            (get_or s (at - 1) 0) 0x5B opened,
        ne_eqb (get_or s (at + get_or s at 0) 0) 0x5D closed,
      )

      pub goes_on : get_or s (at + get_or s at 0) 0 ≡ 0x5D → Some (get_or s at 0) ≡ record_at s at
      goes_on closed = rw (
        lt-ltb 4 (length s) some,
        lt-ltb at (length s) inside,
        lt-ltb (at + get_or s at 0) (length s) end,
        eq-eqb
            (get_or s (at - 1) 0) 0x5B opened,
        eq-eqb (get_or s (at + get_or s at 0) 0) 0x5D closed,
      )

-- ---- the bodies from a place on
-- a number of records that reaches the end is as good as any other
enough : (m k : ℕ) (s : List ℕ) (at : ℕ) → length s ≤ at + m → length s ≤ at + k → up_to m s at ≡ up_to k s at
enough zero zero s at h h' = refl
enough zero (suc k) s at h h' = rw (le-ltb at (length s) (omega arith), and-false, up_to)
enough (suc m) zero s at h h' = rw (le-ltb at (length s) (omega arith), and-false, up_to)
enough (suc m) (suc k) s at h h' =
    ap (λ (l : List (ℕ × ℕ)). cond (stands s at) (body_of at (get_or s at 0) l) []) (enough m k s (at + get_or s at 0 + 2) (omega arith) (omega arith))

-- one step
pub step : (s : List ℕ) (at : ℕ) → bodies_from s at ≡ cond (stands s at) (body_of at (get_or s at 0) (bodies_from s (at + get_or s at 0 + 2))) []
unfolding bodies_from
step s at = enough (length s) (suc (length s)) s at (omega arith) (omega arith)

-- what is known where a record of n stands
taken : (b : Bool) (m n : ℕ) → cond b (Some m) None ≡ Some n → (b ≡ true) × (m ≡ n)
taken true m n h = (refl, cc)
taken false m n h = (cc, cc)

not_taken : (b : Bool) (m : ℕ) → cond b (Some m) None ≡ None → b ≡ false
not_taken true m h = cc
not_taken false m h = refl

module _ (s : List ℕ) (p : ℕ) (here : stands s p ≡ true) where
  behind_tests : (ltb (p + get_or s p 0) (length s) && (eqb (get_or s (p - 1) 0) 0x5B && eqb (get_or s (p + get_or s p 0) 0) 0x5D)) ≡ true
  behind_tests = and_right (ltb p (length s)) _ (and_right (ltb 4 (length s)) _ here)

  pub stands-inside : p + get_or s p 0 < length s
  stands-inside = ltb-true (p + get_or s p 0) (length s) (and_left (ltb (p + get_or s p 0) (length s)) _ behind_tests)

  brackets : (eqb (get_or s (p - 1) 0) 0x5B && eqb (get_or s (p + get_or s p 0) 0) 0x5D) ≡ true
  brackets = and_right (ltb (p + get_or s p 0) (length s)) _ behind_tests

  pub stands-opened : get_or s (p - 1) 0 ≡ 0x5B
  stands-opened = eqb-true (get_or s (p - 1) 0) 0x5B (and_left (eqb (get_or s (p - 1) 0) 0x5B) _ brackets)

  pub stands-closed : get_or s (p + get_or s p 0) 0 ≡ 0x5D
  stands-closed = eqb-true (get_or s (p + get_or s p 0) 0) 0x5D (and_right (eqb (get_or s (p - 1) 0) 0x5B) _ brackets)

module _ (s : List ℕ) (p n : ℕ) (r : Option ℕ) (at_p : r ≡ record_at s p) (here : r ≡ Some n) where
  known : (stands s p ≡ true) × (get_or s p 0 ≡ n)
  known = taken (stands s p) (get_or s p 0) n (sym at_p ∙ here)

  pub record-inside : p + n < length s
  record-inside = rw known.1 at (stands-inside s p known.0)

  pub nearer : length s - (p + n + 2) < length s - p
  nearer = omega (arith, record-inside)

  module _ (room : length s * 1 < 2 ^ 63) where
    pub start_fits : Fits w64 (p + 2)
    start_fits = omega (arith, record-inside)

    pub end_fits : Fits w64 (p + n)
    end_fits = omega (arith, record-inside)

    pub next_fits : Fits w64 (p + n + 2)
    next_fits = omega (arith, record-inside)

  stepped : bodies_from s p ≡ body_of p n (bodies_from s (p + n + 2))
  stepped =
      let here-p : bodies_from s p ≡ body_of p (get_or s p 0) (bodies_from s (p + get_or s p 0 + 2)) = step s p ∙ rw known.0 in
      rw known.1 at here-p

-- ---- the next body: records without one are passed over
pub record Passing (s : List ℕ) (at p : ℕ) : Type 0 where
  pub same : bodies_from s p ≡ bodies_from s at
  pub after : at ≤ p

pub passing_starts : (s : List ℕ) (at : ℕ) → Passing s at at
passing_starts s at = record { same = refl; after = omega arith }

pub no_more : (s : List ℕ) (at p : ℕ) (r : Option ℕ) → Passing s at p → r ≡ record_at s p → r ≡ None → Follows s at None
no_more s at p r w at_p e = sym w.same ∙ step s p ∙ rw (not_taken (stands s p) (get_or s p 0) (sym at_p ∙ e))

module _ (s : List ℕ) (at p n : ℕ) (r : Option ℕ) (w : Passing s at p) (at_p : r ≡ record_at s p) (here : r ≡ Some n) where
  pub passing-more : n < 2 → Passing s at (p + (n + 2))
  passing-more few =
      let e : p + (n + 2) ≡ p + n + 2 = omega arith in
      rw e (record {
        same = sym (stepped s p n r at_p here ∙ rw (lt-leb 2 n few)) ∙ w.same;
        after = omega (arith, w.after);
      })

  pub leads : 2 ≤ n → Follows s at (Some (record { start = record { 0 = p + 2 }; end = record { 0 = p + n } }))
  leads some =
      let e : p + n - (p + 2) ≡ n - 2 = omega arith in
      let i : p + n < length s = record-inside s p n r at_p here in
      record {
        first = rw e (sym w.same ∙ stepped s p n r at_p here ∙ rw (le-leb 2 n some));
        after = omega (arith, w.after);
        ordered = omega arith;
        inside = i;
      }

-- ---- from body to body
module _ (s : List ℕ) (at : ℕ) (r : Option Span) (b : Span) (follows : Follows s at r) (is_b : r ≡ Some b) where
  pub led : Leads s at b
  led = rw is_b at follows

  pub body_nearer : length s - (b.end.0 + 2) < length s - at
  body_nearer = let l = led in omega (arith, l.after, l.ordered, l.inside)

  pub body-ordered : b.start.0 ≤ b.end.0
  body-ordered = led.ordered

  pub body-inside : b.end.0 ≤ length s
  body-inside = let l = led in omega (arith, l.inside)

  pub after-fits : length s * 1 < 2 ^ 63 → Fits w64 (b.end.0 + 2)
  after-fits room = let l = led in omega (arith, l.inside)

-- ---- the count
pub record Counting (s : List ℕ) (count at : ℕ) : Type 0 where
  pub sum : count + length (bodies_from s at) ≡ length (bodies s)
  pub low : count < at

pub counting_starts : (s : List ℕ) → Counting s 0 1
counting_starts s = record { sum = omega arith; low = omega arith }

pub counted_none : (s : List ℕ) → 65535 < length s → Counts s (Err (TooLong (length s)))
counted_none s long = let e = lt-leb (length s) 65535 long in record { answer = rw e refl; numbers = rw e refl }

pub counted-all : (s : List ℕ) (count at : ℕ) (r : Option Span) → Counting s count at → Follows s at r → r ≡ None → length s ≤ 65535
    → Counts s (Ok count)
counted-all s count at r w follows e short =
    let none : bodies_from s at ≡ [] = rw e at follows in
    let sum : count ≡ length (bodies s) = omega (arith, w.sum, ap length none) in
    let within = le-leb (length s) 65535 short in
    record { answer = rw within (ap Ok sum); numbers = rw within (ap (λ (n : ℕ). (0, n)) sum) }

module _ (s : List ℕ) (count at : ℕ) (r : Option Span) (b : Span) (w : Counting s count at) (follows : Follows s at r) (is_b : r ≡ Some b) where
  pub counting_more : Counting s (count + 1) (b.end.0 + 2)
  counting_more =
      let l = led s at r b follows is_b in
      record { sum = omega (arith, w.sum, ap length l.first); low = omega (arith, w.low, l.after, l.ordered) }

  pub count_fits : length s * 1 < 2 ^ 63 → Fits w64 (count + 1)
  count_fits room = let l = led s at r b follows is_b in omega (arith, w.low, l.after, l.ordered, l.inside)

-- ---- body k
later : (b : ℕ × ℕ) (bs : List (ℕ × ℕ)) (k : ℕ) → (k ≡ 0 → ⊥) → get_or (b ∷ bs) k (0, 0) ≡ get_or bs (k - 1) (0, 0)
later b bs zero h = absurd (h refl)
later b bs (suc k) h = let e : suc k - 1 ≡ k = omega arith in rw e

pub record Seeking (s : List ℕ) (k left at : ℕ) : Type 0 where
  pub same : get_or (bodies_from s at) left (0, 0) ≡ get_or (bodies s) k (0, 0)
  pub low : 0 < at

pub seeking_starts : (s : List ℕ) (k : ℕ) → Seeking s k k 1
seeking_starts s k = record { same = refl; low = omega arith }

abbrev nowhere : Span
nowhere = record { start = record { 0 = 0 }; end = record { 0 = 0 } }

pub body-long : (s : List ℕ) (k : ℕ) → 65535 < length s → IsBody s k nowhere
body-long s k long = record { is = rw (lt-leb (length s) 65535 long) refl; ordered = omega arith; inside = omega arith }

module _ (s : List ℕ) (k left at : ℕ) (r : Option Span) (w : Seeking s k left at) (follows : Follows s at r) where
  pub body-past : r ≡ None → length s ≤ 65535 → IsBody s k nowhere
  body-past e short =
      let none : bodies_from s at ≡ [] = rw e at follows in
      record { is = rw (le-leb (length s) 65535 short) (sym w.same ∙ rw none); ordered = omega arith; inside = omega arith }

  pub body_here : (b : Span) → r ≡ Some b → left ≡ 0 → length s ≤ 65535 → IsBody s k b
  body_here b is_b e short =
      let l = led s at r b follows is_b in
      record { is = rw (le-leb (length s) 65535 short) (sym w.same ∙ rw (l.first, e)); ordered = l.ordered; inside = omega (arith, l.inside) }

  pub seeking_more : (b : Span) → r ≡ Some b → (left ≡ 0 → ⊥) → Seeking s k (left - 1) (b.end.0 + 2)
  seeking_more b is_b some =
      let l = led s at r b follows is_b in
      record {
        same = sym (later (b.start.0, b.end.0 - b.start.0) (bodies_from s (b.end.0 + 2)) left some) ∙ (rw l.first at w.same);
        low =
            omega arith;
      }

-- a part of the payload is body k, once its place and its length are
pub shown : (s r : Bor (List ℕ)) (k : ℕ) (b : Span) → IsBody s.now k b → r.ref_ptr.0 ≡ s.ref_ptr.0 → r.ref_ptr.1 ≡ s.ref_ptr.1 + b.start.0
    → r.now ≡ take (b.end.0 - b.start.0) (drop b.start.0 s.now) → PartOf s r (span_of s.now k)
shown s r k b body block place bytes = rw body.is (record { block = block; place = place; bytes = bytes })

-- what the proofs of the functions go by
pub ruleset laws = (
  stop_few,
  stop_past,
  stop_end,
  stop_open,
  stop_close,
  goes_on,
  nearer,
  start_fits,
  end_fits,
  next_fits,
  passing_starts,
  no_more,
  passing-more,
  leads,
  body_nearer,
  body-ordered,
  body-inside,
  after-fits,
  counting_starts,
  counted_none,
  counted-all,
  counting_more,
  count_fits,
  seeking_starts,
  body-long,
  body-past,
  body_here,
  seeking_more,
)
