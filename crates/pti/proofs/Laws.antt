-- Laws of the frames of a payload. Assumes nothing.
use mathlib.Core.Path.{◌≡◌, refl, sym, ap, ◌∙◌}
use mathlib.Core.Bool.{Bool, true, false, cond}
use mathlib.Core.List.{List, [], ◌∷◌, ◌++◌}
use Prim.Native.Nat.{ℕ, zero, suc, ◌+◌, ◌-◌, ◌*◌, ◌/◌, ◌^◌, ◌≤◌, ◌<◌}
use native.Mathlib.Nat.{add-zero}
use native.Mathlib.Omega.{arith}
use mir.Syntax.{w8, w16, w64}
use mir.Val.{Fits, of_z, to_z, hbits}
use mir.Facts.{to_z-of_z}
use lib.Signed.{mag}
use lib.Dec.{eqb, leb}
use lib.ListN.{length, get_or, take, drop, length-take}
use lib.Seq.{sets, length-sets}
use borrow.Author.Tests.{le-leb, lt-leb, leb-true, eq-eqb, ne_eqb}
use Rattle.refusal.specs.declared.Refusal.{Refusal}
use Rattle.refusal.specs.declared.Refusal.TheVariants.{TooLong, MoreRows, Firmware}
use Rattle.rows.specs.Rows.{put, flat}
use Rattle.rows.proofs.Laws.{sets-append, put-room, sets-laid}
use Rattle.rows.proofs.Parts.{length-put}
use Rattle.records.specs.declared.Span.{Span}
use Rattle.frame.specs.declared.Reading.{Reading}
use Rattle.frame.specs.declared.Rules.{Rules}
use Rattle.frame.specs.declared.Parts.{Parts}
use Rattle.frame.specs.declared.PtiFrame.{PtiFrame}
use Rattle.records.specs.Records.{stands, up_to, bodies_from, bodies, bytes_of}
use Rattle.records.specs.Steps.{Leads, Follows}
use Rattle.frame.specs.Steps.{split_of, framed_by}
use Rattle.pti.specs.Steps.{Low, Within, bytes_in, Needs, WritesRow, Writes, Lays, ParsesBy}
use Rattle.frame.specs.Frame.{region_bits, rules_of, is_frame, frame_of, direction_number, beams_number}
use Rattle.pti.specs.Payload.{row_width, row_of, rows_in, rows_of, Rises, Placed, AllPlaced, Located, Parses}
use Rattle.records.proofs.Laws.{stands-inside, stands-opened, stands-closed, led, body_nearer, body-ordered, body-inside, after-fits}
use Rattle.frame.proofs.Ranges.{frame_long, mpdu_inside}
use Rattle.frame.proofs.Laws.{split_frame, split-none, split-framed, parts_in}
use Rattle.std.specs.Prelude.{Option, Some, None, Result, Ok, Err}

-- ---- one body
module _ (w : Rules) (b : List ℕ) (r : Option Parts) (is-r : r ≡ split_of w b) where
  pub holds_one : (p : Parts) → r ≡ Some p → ◌≡◌ {A = ℕ} 1 (cond (is_frame w b) 1 0)
  holds_one p e = rw (split_frame w b r is-r p e) refl

  pub holds-none : r ≡ None → ◌≡◌ {A = ℕ} 0 (cond (is_frame w b) 1 0)
  holds-none e = rw (split-none w b r is-r e) refl

-- ---- the row of a frame
pub row_is : (f : PtiFrame) (k body d rssi beams start : ℕ) → d ≡ direction_number f.direction → rssi ≡ of_z w8 (to_z w8 (of_z w8 f.rssi))
    → mag f.rssi < 2 ^ hbits w8 → beams ≡ beams_number f.beams → start ≡ body + f.start.0
    → (d ∷ f.region ∷ f.channel ∷ f.rate ∷ rssi ∷ beams ∷ start ∷ f.length ∷ k ∷ (body - 3) ∷ f.target.node ∷ f.target.hash
    ∷ f.target.power ∷ []) ≡ row_of k body f
row_is f k body d rssi beams start is-d is-rssi ok is-beams is-start =
    let read_back : to_z w8 (of_z w8 f.rssi) ≡ f.rssi = to_z-of_z {w = w8} {z = f.rssi} (record { sfits = ok }) in
    rw (is-d, is-rssi, read_back, is-beams, is-start) refl

-- a body's bytes are a part of the payload
pub within_end : (s : List ℕ) (b : Span) → Within s b → b.end.0 ≤ length s
within_end s b within = omega (arith, within.before)

-- a body's MPDU starts inside it
pub low-start : (w : Rules) (s : List ℕ) (b : Span) (x : Option Parts) (p : Parts) (f : PtiFrame) → x ≡ split_of w (bytes_in s b) → x ≡ Some p
    → f ≡ framed_by w.reading (bytes_in s b) p → Within s b → Low b.start.0 f.start.0
low-start w s b x p f is_x e is_f within =
    let is-start : f.start.0 ≡ p.middle.0 = ap (λ (y : PtiFrame). y.start.0) is_f in
    let inside = parts_in w (bytes_in s b) x is_x p e in
    let few = length-take (b.end.0 - b.start.0) (drop b.start.0 s) in
    record { behind = within.behind; mpdu = omega (arith, within.ordered, within.before, within.short, inside.some, inside.inside) }

-- a body that is shorter than every frame holds none
pub writes_short : (w : Rules) (s : List ℕ) (b : Span) (k n : ℕ) (t : List ℕ) → length (bytes_in s b) < 18 → Writes w s b k n t n t
writes_short w s b k n t h = go (is_frame w (bytes_in s b)) refl
  where
    go : (y : Bool) → is_frame w (bytes_in s b) ≡ y → Writes w s b k n t n t
    go true e = absurd (omega (arith, frame_long w (bytes_in s b) e))
    go false e = record { next = rw e (omega arith); table = rw e refl }

module _ (w : Rules) (s : List ℕ) (b : Span) (k n : ℕ) (t : List ℕ) (x : Option Parts) (is_x : x ≡ split_of w (bytes_in s b)) where
  pub writes_none : x ≡ None → Writes w s b k n t n t
  writes_none e = let none = split-none w (bytes_in s b) x is_x e in record { next = rw none (omega arith); table = rw none refl }

  pub writes_frame : (p : Parts) (f : PtiFrame) (r : ℕ) (t' : List ℕ) → x ≡ Some p → f ≡ framed_by w.reading (bytes_in s b) p
      → WritesRow f k b.start.0 n t r t' → Writes w s b k n t r t'
  writes_frame p f r t' e is_f wrote =
      let some = split_frame w (bytes_in s b) x is_x p e in
      let is-frame = split-framed w (bytes_in s b) x is_x p e f is_f in
      record { next = rw some wrote.next; table = rw some (rw is-frame at wrote.table) }

pub writes_row : (f : PtiFrame) (k body n : ℕ) (t row t' : List ℕ) → row ≡ row_of k body f → t' ≡ put t (n * row_width) row
    → WritesRow f k body n t (n + 1) t'
writes_row f k body n t row t' is_row is-t = record { next = refl; table = rw is_row at is-t }

module _ (n : ℕ) (t : List ℕ) (room : n * row_width ≤ length t) (size : length t * 2 < 2 ^ 63) where
  pub row_fits : Fits w64 (n * row_width)
  row_fits = omega arith

  pub next_fits : Fits w64 (n + 1)
  next_fits = omega arith

-- ---- the count
module _ (w : Rules) (s : List ℕ) where
  counted-row : (k : ℕ) (b : ℕ × ℕ) (bs : List (ℕ × ℕ))
      → length (rows_in w s k (b ∷ bs)) ≡ cond (is_frame w (bytes_of s b)) 1 0 + length (rows_in w s (k + 1) bs)
  unfolding rows_in
  counted-row k b bs = go (is_frame w (bytes_of s b)) _
    where
      go : (t : Bool) (row : List ℕ)
          → length (cond t (row ∷ rows_in w s (k + 1) bs) (rows_in w s (k + 1) bs)) ≡ cond t 1 0 + length (rows_in w s (k + 1) bs)
      go true row = omega arith
      go false row = omega arith

  -- whatever number the first body has
  same_count : (k j : ℕ) (bs : List (ℕ × ℕ)) → length (rows_in w s k bs) ≡ length (rows_in w s j bs)
  unfolding rows_in
  same_count k j [] = refl
  same_count k j (b ∷ bs) = omega (arith, counted-row k b bs, counted-row j b bs, same_count (k + 1) (j + 1) bs)

pub record Tallying (w : Rules) (s : List ℕ) (count at : ℕ) : Type 0 where
  pub sum : count + length (rows_in w s 0 (bodies_from s at)) ≡ length (rows_of w s)
  pub low : count < at

pub tallying_starts : (w : Rules) (s : List ℕ) → Tallying w s 0 1
tallying_starts w s = record { sum = omega arith; low = omega arith }

pub tallied : (w : Rules) (s : List ℕ) (count at : ℕ) (r : Option Span) → Tallying w s count at → Follows s at r → r ≡ None
    → count ≡ length (rows_of w s)
unfolding rows_in
tallied w s count at r inv follows e =
    let none : bodies_from s at ≡ [] = rw e at follows in
    omega (arith, inv.sum, ap (λ (l : List (ℕ × ℕ)). length (rows_in w s 0 l)) none)

module _ (w : Rules) (s : List ℕ) (count at : ℕ) (r : Option Span) (b : Span) (k : ℕ) (inv : Tallying w s count at) (follows : Follows s at r)
    (is_b : r ≡ Some b) (is-k : k ≡ cond (is_frame w (take (b.end.0 - b.start.0) (drop b.start.0 s))) 1 0) (few : k ≤ 1) where
  pub tallying_more : Tallying w s (count + k) (b.end.0 + 2)
  tallying_more =
      let l = led s at r b follows is_b in
      let others = bodies_from s (b.end.0 + 2) in
      let row = counted-row w s 0 (b.start.0, b.end.0 - b.start.0) others in
      let here : length (rows_in w s 0 (bodies_from s at)) ≡ k + length (rows_in w s (0 + 1) others) = rw (l.first, is-k) row in
      record { sum = omega (arith, inv.sum, same_count w s (0 + 1) 0 others); low = omega (arith, inv.low, l.after, l.ordered) }

  pub tally-fits : length s * 1 < 2 ^ 63 → Fits w64 (count + k)
  tally-fits room = let l = led s at r b follows is_b in omega (arith, inv.low, l.after, l.ordered, l.inside)

-- ---- the rows
pub wide : (w : Rules) (s : List ℕ) (k : ℕ) (bs : List (ℕ × ℕ)) → length (flat (rows_in w s k bs)) ≡ length (rows_in w s k bs) * row_width
unfolding rows_in
wide w s k [] = refl
wide w s k (b ∷ bs) = go (is_frame w (bytes_of s b)) (wide w s (k + 1) bs)
  where
    row : List ℕ
    row = row_of k b.0 (frame_of w (bytes_of s b))

    go : (t : Bool) → length (flat (rows_in w s (k + 1) bs)) ≡ length (rows_in w s (k + 1) bs) * row_width
        → length (flat (cond t (row ∷ rows_in w s (k + 1) bs) (rows_in w s (k + 1) bs)))
        ≡ length (cond t (row ∷ rows_in w s (k + 1) bs) (rows_in w s (k + 1) bs)) * row_width
    go true ih = omega arith
    go false ih = ih

-- the bodies from this one on
abbrev from : List ℕ → Span → List (ℕ × ℕ)
from s b = (b.start.0, b.end.0 - b.start.0) ∷ bodies_from s (b.end.0 + 2)

-- the table with the rows of these bodies, of which the first is record k, is the table that is asked for
record Left (w : Rules) (s t₀ t : List ℕ) (n k : ℕ) (bs : List (ℕ × ℕ)) : Type 0 where
  sum : n + length (rows_in w s k bs) ≡ length (rows_of w s)
  rest : sets t (n * row_width) (flat (rows_in w s k bs)) ≡ sets t₀ 0 (flat (rows_of w s))
  room : (n + length (rows_in w s k bs)) * row_width ≤ length t
  same : length t ≡ length t₀

-- the body b of record k is the next; there are no more rows than records
pub record Writing (w : Rules) (s t₀ t : List ℕ) (n k : ℕ) (b : Span) : Type 0 where
  left : Left w s t₀ t n k (from s b)
  pub few : n ≤ k
  pub low : k + 3 ≤ b.start.0
  pub within : Within s b

-- writing the row of a body, whichever it is, writes one row at most, and keeps the table's length
module _ (w : Rules) (s : List ℕ) (b : Span) (k n : ℕ) (t : List ℕ) (n' : ℕ) (t' : List ℕ) (wrote : Writes w s b k n t n' t') where
  one_more : n' ≤ n + 1
  one_more = go (is_frame w (bytes_in s b)) wrote.next
    where
      go : (y : Bool) → n' ≡ n + cond y 1 0 → n' ≤ n + 1
      go true e = omega (arith, e)
      go false e = omega (arith, e)

  size-kept : length t' ≡ length t
  size-kept = go (is_frame w (bytes_in s b)) wrote.table
    where
      go : (y : Bool) → t' ≡ cond y (put t (n * row_width) (row_of k b.start.0 (frame_of w (bytes_in s b)))) t → length t' ≡ length t
      go true e = ap length e ∙ length-put t (n * row_width) (row_of k b.start.0 (frame_of w (bytes_in s b)))
      go false e = ap length e

-- the first body from a place on, which is not the payload's very first
pub leads-within : (s : List ℕ) (at : ℕ) (b : Span) → Leads s at b → 1 ≤ at → length s ≤ 65535 → Within s b
leads-within s at b l some short = record { behind = omega (arith, l.after); ordered = l.ordered; before = l.inside; short = short }

pub writing_starts : (w : Rules) (s t : List ℕ) (b : Span) → length (rows_of w s) * row_width ≤ length t → length s ≤ 65535 → Leads s 1 b
    → Writing w s t t 0 0 b
writing_starts w s t b room short l =
    let first : bodies s ≡ from s b = l.first in
    let all : length (rows_in w s 0 (from s b)) ≡ length (rows_of w s) = ap (λ (bs : List (ℕ × ℕ)). length (rows_in w s 0 bs)) (sym first) in
    record {
      left = record {
        sum = omega (arith, all);
        rest = ap (λ (bs : List (ℕ × ℕ)). sets t 0 (flat (rows_in w s 0 bs))) (sym first);
        room = omega (arith, all);
        same = refl;
      };
      few = omega arith;
      low = omega (arith, l.after);
      within = leads-within s 1 b l (omega arith) short;
    }

pub table_kept : (w : Rules) (s t₀ t : List ℕ) (n k : ℕ) (b next : Span) (j n' : ℕ) (t' : List ℕ) → Writing w s t₀ t n k b
    → Writes w s next j n t n' t' → length t' ≡ length t₀
table_kept w s t₀ t n k b next j n' t' inv wrote = size-kept w s next j n t n' t' wrote ∙ inv.left.same

module _ (w : Rules) (s t₀ t : List ℕ) (n k : ℕ) (b : Span) (inv : Writing w s t₀ t n k b) where
  pub rows_so_far : n * row_width ≤ length t
  rows_so_far = omega (arith, inv.left.room)

  pub number_fits : Fits w16 (k + 1)
  number_fits = let i = inv.within in omega (arith, inv.low, i.ordered, i.before, i.short)

  pub next_place_fits : Fits w64 (b.end.0 + 2)
  next_place_fits = let i = inv.within in omega (arith, i.before, i.short)

  -- the rows of the bodies behind this one, and its own
  abbrev next_rows : List (List ℕ)
  next_rows = rows_in w s (k + 1) (bodies_from s (b.end.0 + 2))

  abbrev row : List ℕ
  row = row_of k b.start.0 (frame_of w (bytes_in s b))

  here : rows_in w s k (from s b) ≡ cond (is_frame w (bytes_in s b)) (row ∷ next_rows) next_rows
  unfolding rows_in
  here = refl

  module _ (n' : ℕ) (t' : List ℕ) (wrote : Writes w s b k n t n' t') where
    behind : Left w s t₀ t' n' (k + 1) (bodies_from s (b.end.0 + 2))
    behind = go (is_frame w (bytes_in s b)) refl
      where
        go : (y : Bool) → is_frame w (bytes_in s b) ≡ y → Left w s t₀ t' n' (k + 1) (bodies_from s (b.end.0 + 2))
        go false e =
            let now-is : rows_in w s k (from s b) ≡ next_rows = here ∙ rw e refl in
            let same-n : n' ≡ n = rw (e, add-zero) at wrote.next in
            let same-t : t' ≡ t = rw e at wrote.table in
            rw (same-n, same-t)
            (record {
              sum = rw now-is at inv.left.sum;
              rest = rw now-is at inv.left.rest;
              room = rw now-is at inv.left.room;
              same = inv.left.same;
            })
        go true e =
            let now-is : rows_in w s k (from s b) ≡ row ∷ next_rows = here ∙ rw e refl in
            let room : (n + length (row ∷ next_rows)) * row_width ≤ length t = rw now-is at inv.left.room in
            let sum : n + length (row ∷ next_rows) ≡ length (rows_of w s) = rw now-is at inv.left.sum in
            let next-n : n' ≡ n + 1 = rw e at wrote.next in
            let put-t : t' ≡ sets t (n * row_width) row = (rw e at wrote.table) ∙ put-room t row (n * row_width) (omega arith) in
            let place : n * row_width + length row ≡ (n + 1) * row_width = omega arith in
            let rest : sets t (n * row_width) (row ++ flat next_rows) ≡ sets t₀ 0 (flat (rows_of w s)) = rw now-is at inv.left.rest in
            let size : length (sets t (n * row_width) row) ≡ length t = length-sets t (n * row_width) row in
            rw (next-n, put-t)
            (record {
              sum = omega arith;
              rest = rw (← place) (sym (sets-append t (n * row_width) row (flat next_rows)) ∙ rest);
              room = omega arith;
              same = size ∙ inv.left.same;
            })

    module _ (r : Option Span) (follows : Follows s (b.end.0 + 2) r) where
      pub written : r ≡ None → length (rows_of w s) * row_width ≤ length t₀ → Lays w s t₀ n' t'
      unfolding rows_in
      written e room =
          let none : bodies_from s (b.end.0 + 2) ≡ [] = rw e at follows in
          let l : Left w s t₀ t' n' (k + 1) [] = rw none at behind in
          record { count = omega (arith, l.sum); table = l.rest ∙ sets-laid t₀ (rows_of w s) (omega (arith, wide w s 0 (bodies s))) }

      module _ (next : Span) (is_next : r ≡ Some next) where
        leads : Leads s (b.end.0 + 2) next
        leads = led s (b.end.0 + 2) r next follows is_next

        pub writing_nearer : length s - next.end.0 < length s - b.end.0
        writing_nearer = let l = leads in omega (arith, l.after, l.ordered, l.inside)

        pub writing_more : Writing w s t₀ t' n' (k + 1) next
        writing_more =
            let l = leads in
            let i = inv.within in
            record {
              left = rw l.first at behind;
              few = omega (arith, inv.few, one_more w s b k n t n' t' wrote);
              low = omega (arith, inv.low, i.ordered, l.after);
              within = leads-within s (b.end.0 + 2) next l (omega arith) i.short;
            }

-- ---- how many rows there can be
module _ (w : Rules) (s : List ℕ) where
  -- a body with a frame has 18 bytes or more, its record 4 more
  long-body : (at n : ℕ) → cond (is_frame w (bytes_of s (at, n))) 1 0 * 22 ≤ n + 4
  long-body at n = go (is_frame w (bytes_of s (at, n))) (frame_long w (bytes_of s (at, n)))
    where
      go : (y : Bool) → (y ≡ true → 18 ≤ length (bytes_of s (at, n))) → cond y 1 0 * 22 ≤ n + 4
      go true h = omega (arith, h refl, length-take n (drop at s))
      go false h = omega arith

  -- so the records with a frame that stand from a place on take 22 bytes each behind it
  few_rows : (m k at : ℕ) → 0 < at → length (rows_in w s k (up_to m s at)) * 22 ≤ length s + 1 - at
  unfolding rows_in
  few_rows zero k at some = omega arith
  few_rows (suc m) k at some =
      go (get_or s at 0) (stands s at) (leb 2 (get_or s at 0)) (up_to m s (at + get_or s at 0 + 2)) (stands-inside s at)
      (leb-true 2 (get_or s at 0)) (λ j. few_rows m j (at + get_or s at 0 + 2) (omega arith))
    where
      go : (n : ℕ) (a b : Bool) (bs : List (ℕ × ℕ)) → (a ≡ true → at + n < length s) → (b ≡ true → 2 ≤ n)
          → ((j : ℕ) → length (rows_in w s j bs) * 22 ≤ length s + 1 - (at + n + 2))
          → length (rows_in w s k (cond a (cond b ((at + 2, n - 2) ∷ bs) bs) [])) * 22 ≤ length s + 1 - at
      go n false b bs inside two rest = omega arith
      go n true false bs inside two rest = omega (arith, rest k)
      go n true true bs inside two rest =
          let here = counted-row w s k (at + 2, n - 2) bs in
          omega (arith, rest (k + 1), inside refl, two refl, long-body (at + 2) (n - 2))

  pub rows_few : length (rows_of w s) ≤ length s / 22
  unfolding bodies_from
  rows_few = let few = few_rows (length s) 0 1 (omega arith) in omega arith

pub needs_most : (w : Rules) (s : List ℕ) (room : ℕ) → length s / 22 ≤ room → Needs w s room (length s / 22)
needs_most w s room roomy = record { enough = rows_few w s; exact = λ over. absurd (omega arith) }

pub needs_count : (w : Rules) (s : List ℕ) (room n : ℕ) → n ≡ length (rows_of w s) → Needs w s room n
needs_count w s room n is-n = record { enough = omega arith; exact = λ over. is-n }

-- ---- where the rows come from
rises_low : (column low low' : ℕ) (rows : List (List ℕ)) → low' ≤ low → Rises column low rows → Rises column low' rows
rises_low column low low' [] less rises = tt
rises_low column low low' (r ∷ rs) less rises = (omega (arith, rises.0), rises.1)

module _ (w : Rules) (s : List ℕ) (short : length s ≤ 65535) where
  -- rows whose first record number is k or more, and whose first bracket stands before the place `at` or behind it
  record From (k at : ℕ) (rows : List (List ℕ)) : Type 0 where
    numbers : Rises 8 k rows
    places : Rises 9 (at - 1) rows
    placed : AllPlaced s rows

  -- these bodies are those of the payload from number k on
  abbrev Numbered : ℕ → List (ℕ × ℕ) → Type 0
  Numbered k bs = (j : ℕ) → get_or (bodies s) (k + j) (0, 0) ≡ get_or bs j (0, 0)

  -- what is known of a record of n at a place
  record Here (at n : ℕ) : Type 0 where
    is : n ≡ get_or s at 0
    some : 0 < at
    opened : get_or s (at - 1) 0 ≡ 0x5B
    closed : get_or s (at + n) 0 ≡ 0x5D

  placed_row : (k at n : ℕ) → Here at n → 2 ≤ n → get_or (bodies s) (k + 0) (0, 0) ≡ (at + 2, n - 2)
      → is_frame w (bytes_of s (at + 2, n - 2)) ≡ true
      → Placed s (row_of k (at + 2) (frame_of w (bytes_of s (at + 2, n - 2))))
  placed_row k at n here two first whole =
      let b = bytes_of s (at + 2, n - 2) in
      let bracket : at + 2 - 3 ≡ at - 1 = omega (arith, here.some) in
      let length_byte : at - 1 + 1 ≡ at = omega (arith, here.some) in
      let body : at - 1 + 3 ≡ at + 2 = omega (arith, here.some) in
      let few = length-take (n - 2) (drop (at + 2) s) in
      let inside = mpdu_inside w b whole in
      rw (bracket)
      (record {
        opened = here.opened;
        body = rw (length_byte, body, ← here.is, le-leb (length s) 65535 short) (rw add-zero at first);
        behind = rw body (omega arith);
        before = rw (length_byte, ← here.is) (omega arith);
        closed = rw (length_byte, ← here.is) here.closed;
      })

  located_from : (m k at : ℕ) → 0 < at → Numbered k (up_to m s at) → From k at (rows_in w s k (up_to m s at))
  unfolding rows_in
  located_from zero k at some are = record { numbers = tt; places = tt; placed = tt }
  located_from (suc m) k at some are =
      go (get_or s at 0) (stands s at) (leb 2 (get_or s at 0)) (up_to m s (at + get_or s at 0 + 2))
      (λ e. record { is = refl; some = some; opened = stands-opened s at e; closed = stands-closed s at e })
      (leb-true 2 (get_or s at 0)) (λ j. located_from m j (at + get_or s at 0 + 2) (omega arith)) are
    where
      go : (n : ℕ) (a b : Bool) (bs : List (ℕ × ℕ)) → (a ≡ true → Here at n) → (b ≡ true → 2 ≤ n)
          → ((j : ℕ) → Numbered j bs → From j (at + n + 2) (rows_in w s j bs)) → Numbered k (cond a (cond b ((at + 2, n - 2) ∷ bs) bs) [])
          → From k at (rows_in w s k (cond a (cond b ((at + 2, n - 2) ∷ bs) bs) []))
      go n false b bs here two rest are = record { numbers = tt; places = tt; placed = tt }
      go n true false bs here two rest are =
          let others = rest k are in
          record {
            numbers = others.numbers;
            places = rises_low 9 (at + n + 2 - 1) (at - 1) (rows_in w s k bs) (omega arith) others.places;
            placed = others.placed;
          }
      go n true true bs here two rest are = frame (is_frame w (bytes_of s (at + 2, n - 2))) refl
        where
          later : Numbered (k + 1) bs
          later j = let e : k + 1 + j ≡ k + suc j = omega arith in rw e (are (suc j))

          others : From (k + 1) (at + n + 2) (rows_in w s (k + 1) bs)
          others = rest (k + 1) later

          frame : (y : Bool) → is_frame w (bytes_of s (at + 2, n - 2)) ≡ y
              → From k at
              (cond y (row_of k (at + 2) (frame_of w (bytes_of s (at + 2, n - 2))) ∷ rows_in w s (k + 1) bs) (rows_in w s (k + 1) bs))
          frame false e =
              record {
                numbers = rises_low 8 (k + 1) k (rows_in w s (k + 1) bs) (omega arith) others.numbers;
                places = rises_low 9 (at + n + 2 - 1) (at - 1) (rows_in w s (k + 1) bs) (omega arith) others.places;
                placed = others.placed;
              }
          frame true e =
              record {
                numbers = (omega arith, rises_low 8 (k + 1) (suc k) (rows_in w s (k + 1) bs) (omega arith) others.numbers);
                places = (
                  omega arith,
                  rises_low 9 (at + n + 2 - 1) (suc (at + 2 - 3)) (rows_in w s (k + 1) bs) (omega (arith, (here refl).some)) others.places,
                );
                placed = (placed_row k at n (here refl) (two refl) (are 0) e, others.placed);
              }

  pub located : Located s (rows_of w s)
  unfolding bodies_from
  located =
      let all = located_from (length s) 0 1 (omega arith) (λ j. let e : 0 + j ≡ j = omega arith in rw e refl) in
      record { numbers = all.numbers; places = all.places; placed = all.placed }

-- ---- the answer
module _ (w : Rules) (s t : List ℕ) (needed : ℕ) (needs : Needs w s (length t / row_width) needed) (short : length s ≤ 65535) where
  within : leb (length s) 65535 ≡ true
  within = le-leb (length s) 65535 short

  pub bodies-more : length t / row_width < needed → ParsesBy w s t (Err (MoreRows needed)) t
  bodies-more few =
      let is-needed = needs.exact few in
      let over = lt-leb (length (rows_of w s)) (length t / row_width) (omega arith) in
      rw is-needed (record { answer = rw (within, over) refl; numbers = rw (within, over) refl; table = refl; located = tt })

  pub bodies-all : (n : ℕ) (t' : List ℕ) → needed ≤ length t / row_width → Lays w s t n t' → ParsesBy w s t (Ok n) t'
  bodies-all n t' room lays =
      let fits = le-leb (length (rows_of w s)) (length t / row_width) (omega (arith, needs.enough)) in
      rw lays.count
      (record { answer = rw (within, fits) refl; numbers = rw (within, fits) refl; table = lays.table; located = located w s short })

module _ (firmware : ℕ) (reading : Reading) (w : Rules) (s t : List ℕ) (is-w : w ≡ rules_of firmware reading) where
  is_width : w.width ≡ region_bits firmware
  is_width = ap (λ (x : Rules). x.width) is-w

  pub parses_unknown : w.width ≡ 0 → Parses firmware reading s t (Err (Firmware firmware)) t
  parses_unknown none =
      let unknown = eq-eqb (region_bits firmware) 0 (sym is_width ∙ none) in
      record { answer = rw unknown refl; numbers = rw unknown refl; table = refl; located = tt }

  module _ (some : w.width ≡ 0 → ⊥) where
    known : eqb (region_bits firmware) 0 ≡ false
    known = ne_eqb (region_bits firmware) 0 (λ none. some (is_width ∙ none))

    pub parses_long : 65535 < length s → Parses firmware reading s t (Err (TooLong (length s))) t
    parses_long long =
        let over = lt-leb (length s) 65535 long in
        record { answer = rw (known, over) refl; numbers = rw (known, over) refl; table = refl; located = tt }

    -- a payload without a body: its rates are not laid out
    pub parses_none : (r : Option Span) → length s ≤ 65535 → Follows s 1 r → r ≡ None → Parses firmware reading s t (Ok 0) t
    unfolding rows_in
    parses_none r short follows e =
        let none : bodies s ≡ [] = rw e at follows in
        let few = le-leb (length s) 65535 short in
        let fits = le-leb 0 (length t / row_width) (omega arith) in
        record {
          answer = rw (known, few, none, fits) refl;
          numbers = rw (known, few, none, fits) refl;
          table = rw none refl;
          located = located (rules_of firmware reading) s short;
        }

    pub parses_bodies : (r : Result ℕ Refusal) (t' : List ℕ) → ParsesBy w s t r t' → Parses firmware reading s t r t'
    parses_bodies r t' p =
        let q : ParsesBy (rules_of firmware reading) s t r t' = rw is-w at p in
        record { answer = rw known q.answer; numbers = rw known q.numbers; table = q.table; located = q.located }

pub rows_fit : (w : Rules) (s t : List ℕ) (needed : ℕ) → Needs w s (length t / row_width) needed → needed ≤ length t / row_width
    → length (rows_of w s) * row_width ≤ length t
rows_fit w s t needed needs room = omega (arith, needs.enough)

-- ---- as many rows as are answered stand in the table
narrowed : (u a b : Bool) (n : ℕ) (l : List (List ℕ)) (room : ℕ) (x y z : Refusal) → (b ≡ true → length l ≤ room)
    → Ok n ≡ cond u (Err z) (cond a (cond b (Ok (length l)) (Err x)) (Err y)) → n ≤ room
narrowed true a b n l room x y z f e = absurd (let h : ◌≡◌ {A = ℕ} 0 1 = cc in omega arith)
narrowed false true true n l room x y z f e = let h : n ≡ length l = cc in rw h (f refl)
narrowed false true false n l room x y z f e = absurd (let h : ◌≡◌ {A = ℕ} 0 1 = cc in omega arith)
narrowed false false b n l room x y z f e = absurd (let h : ◌≡◌ {A = ℕ} 0 1 = cc in omega arith)

pub rows-room : (firmware : ℕ) (reading : Reading) (s t t' : List ℕ) (r : Result ℕ Refusal) (n : ℕ) → Parses firmware reading s t r t' → r ≡ Ok n
    → length t' ≡ length t → n * row_width ≤ length t'
rows-room firmware reading s t t' r n p e kept =
    let rows = rows_of (rules_of firmware reading) s in
    let few : n ≤ length t / row_width =
    narrowed (eqb (region_bits firmware) 0) (leb (length s) 65535) (leb (length rows) (length t / row_width)) n rows (length t / row_width)
    (MoreRows (length rows)) (TooLong (length s)) (Firmware firmware) (leb-true (length rows) (length t / row_width)) (sym e ∙ p.answer) in
    omega arith

-- what the proofs of the functions go by
pub ruleset laws = (
  body_nearer,
  body-ordered,
  body-inside,
  after-fits,
  parts_in,
  holds_one,
  holds-none,
  tallying_starts,
  tallied,
  tallying_more,
  tally-fits,
  row_is,
  low-start,
  row_fits,
  next_fits,
  writes_short,
  writes_none,
  writes_row,
  writes_frame,
  within_end,
  led,
  leads-within,
  writing_starts,
  rows_so_far,
  number_fits,
  next_place_fits,
  table_kept,
  written,
  writing_nearer,
  writing_more,
  needs_most,
  needs_count,
  rows_fit,
  bodies-more,
  bodies-all,
  parses_unknown,
  parses_long,
  parses_none,
  parses_bodies,
)
