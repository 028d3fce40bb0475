-- Laws of the requests on frames. Assumes nothing.
use Rattle.std.proofs.Common.{◌≡◌, ℕ, ◌*◌, ◌<◌, ◌≤◌, Bool, true, false, cond, eqb, leb, List, length, take, sym, ap, refl, ◌∙◌, arith, length-take-le, le-leb}
use borrow.Author.Tests.{lt-leb}
use Rattle.request.specs.Request.{two_of}
use Rattle.request.proofs.Laws.{two_words, two_laws, request_laws}
use Rattle.pti.specs.Payload.{row_width}
use Rattle.screen.specs.declared.FrameRecord.{FrameRecord}
use Rattle.screen.proofs.Laws.{fillable_bounds}
use Rattle.libtap.proofs.Standing.{standing_laws}
use Rattle.frame_requests.specs.declared.frame_table.FrameTable.{FrameTable}
use Rattle.frame_requests.specs.declared.frames.Capture.{Capture}
use Rattle.frame_requests.specs.Frames.{by_two, named_of, by_of, Asks}
use Rattle.frame_requests.specs.Screen.{FilledFirst}
use Rattle.std.specs.Prelude.{Option, Some, None}

-- ---- the first four numbers of a row
pub row_front : (row : List ℕ) → 8 ≤ length row → 4 ≡ length (take 4 row)
row_front row h = sym (length-take-le 4 row (omega arith))

-- ---- a table and a payload
module _ (held : List ℕ) (r : Option (ℕ × ℕ)) (numbers n : ℕ) (told : Asks held r) (is : r ≡ Some (numbers, n)) where
  asked : (numbers ≤ 16384 * row_width) × (n ≤ length held)
  asked = rw is at told

  pub asked-payload : n ≤ length held
  asked-payload = asked.1

  pub asked-numbers : numbers ≤ 16384 * row_width
  asked-numbers = asked.0

-- ---- the firmware that a request names
module _ (words : List ℕ) (r : Option (ℕ × ℕ × ℕ)) (is : r ≡ two_of words) where
  pub named_none : r ≡ None → None ≡ named_of words
  named_none e = rw (← is, e)

  module _ (firmware reading at : ℕ) (are : r ≡ Some (firmware, reading, at)) where
    pub named-over : 1 < reading → None ≡ named_of words
    named-over o = rw (← is, are, lt-leb reading 1 o)

    pub named_is : reading ≤ 1 → (family : Bool) → family ≡ eqb reading 1
        → Some ((record { firmware = firmware; family = family }), at) ≡ named_of words
    named_is few family e = rw (← is, are, le-leb reading 1 few, e)

pub by_named : (words : List ℕ) (named : Bool) (r : Option (Capture × ℕ)) → r ≡ named_of words → named ≡ true → r ≡ by_of named words
by_named words named r is e = rw e is

pub by_plain : (words : List ℕ) (named : Bool) → named ≡ false → Some ((record { firmware = 2; family = false }), 0) ≡ by_of named words
by_plain words named e = rw e

-- where the other words start, there are such
pub by_rest : (words : List ℕ) (named : Bool) (r : Option (Capture × ℕ)) (capture : Capture) (at : ℕ) → r ≡ by_of named words → r ≡ Some (capture, at)
    → at ≤ length words
by_rest words named r capture at is e =
    by_name named (two_of words) (λ a b n h. two_words words (two_of words) a b n refl h) (sym is ∙ e)
  where
    by_reading : (t : Bool) (q : Capture) (n : ℕ) → n ≤ length words → cond {A = Option (Capture × ℕ)} t (Some (q, n)) None ≡ Some (capture, at)
        → at ≤ length words
    by_reading true q n few h = let both : ◌≡◌ {A = Capture × ℕ} (q, n) (capture, at) = cc in omega (arith, ap (λ p. p.1) both)
    by_reading false q n few h = absurd (let z : ◌≡◌ {A = ℕ} 0 1 = cc in omega arith)

    by_name : (t : Bool) (two : Option (ℕ × ℕ × ℕ)) → ((a b n : ℕ) → two ≡ Some (a, b, n) → n ≤ length words)
        → cond {A = Option (Capture × ℕ)} t (by_two two) (Some (record { firmware = 2; family = false }, 0)) ≡ Some (capture, at) → at ≤ length words
    by_name true (Some (a, b, n)) inside h = by_reading (leb b 1) (record { firmware = a; family = eqb b 1 }) n (inside a b n refl) h
    by_name true None inside h = absurd (let z : ◌≡◌ {A = ℕ} 0 1 = cc in omega arith)
    by_name false two inside h =
        let both : ◌≡◌ {A = Capture × ℕ} (record { firmware = 2; family = false }, 0) (capture, at) = cc in
        omega (arith, ap (λ p. p.1) both)

-- ---- as many records as are filled stand in the table of frame records
pub filled-inside : (records : List FrameRecord) (rows₀ rows : List ℕ) (n lent : ℕ) (t : FrameTable) → FilledFirst records rows₀ n lent t
    → length rows ≡ length rows₀ → t.filled * row_width ≤ length rows
filled-inside records rows₀ rows n lent t p same = omega (arith, p.count, fillable_bounds n lent (length rows₀))

-- The laws that the proofs of this crate's functions go by.
pub ruleset laws = (
  request_laws,
  two_laws,
  standing_laws,
  row_front,
  asked-payload,
  asked-numbers,
  named_none,
  named-over,
  named_is,
  by_named,
  by_plain,
  by_rest,
  filled-inside,
)
