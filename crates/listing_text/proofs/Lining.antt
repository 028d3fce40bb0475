-- Laws of lines that are written. Assumes nothing.
use mathlib.Core.Path.{◌≡◌, refl, sym, ap, ◌∙◌}
use mathlib.Core.List.{List, [], ◌∷◌, ◌++◌, append-nil, append_assoc}
use Prim.Native.Nat.{ℕ, suc, ◌+◌, ◌-◌, ◌*◌, ◌^◌, ◌≤◌, ◌<◌}
use native.Mathlib.Omega.{arith}
use lib.ListN.{length, get_or, set, take, drop, length-append, length-drop}
use lib.Seq.{sets, sets-eq, length-sets, take_at, drop-drop, length-take-le}
use borrow.Author.Tests.{eq-eqb, ne_eqb}
use Rattle.laws.proofs.Lists.{next, done}
use Rattle.rows.specs.Rows.{put}
use Rattle.rows.proofs.Laws.{sets-append, put-room}
use Rattle.rows.proofs.Parts.{length-put}
use Rattle.text.specs.Print.{Every, shown}
use Rattle.numerals.specs.Numerals.{room, decimal, Spells}
use Rattle.numerals.proofs.Laws.{digits_are}
use Rattle.numerals.proofs.Shown.{decimal-shown}
use Rattle.listing_text.specs.Listing.{row_width, stop_of, line_of, text_of, closed}
use Rattle.listing_text.specs.Steps.{Small, PutsNumber, Writes, stop_before, rows_in, puts, Puts, PutsAll}

-- ---- bytes at a place that has room for them
module _ (b r : List ℕ) (at : ℕ) (long : length r ≤ length b) (inside : at ≤ length b - length r) where
  pub bytes_put : (b' : List ℕ) → b' ≡ sets b at r → b' ≡ put b at r
  bytes_put b' e = e ∙ sym (put-room b r at (omega arith))

-- ---- a number and the byte behind it
module _ (n stop : ℕ) (line : List ℕ) (at start : ℕ) (bytes : List ℕ) (spells : Spells 2 (decimal n) start bytes) (fits : at + 21 ≤ length line)
    (small : n < 2 ^ 64) where
  long : length (shown n) ≡ room - start
  long = ap length (sym (spells.text ∙ decimal-shown n small)) ∙ length-drop start bytes ∙ rw spells.all refl

  pub number_put : (line₁ : List ℕ) → line₁ ≡ put line at (take (room - start) (drop start bytes))
      → PutsNumber n stop line at (at + (room - start) + 1) (set line₁ (at + (room - start)) stop)
  number_put line₁ e =
      let is : line₁ ≡ sets line at (shown n) =
      e ∙ ap (put line at) (digits_are 2 (decimal n) start bytes spells ∙ decimal-shown n small)
      ∙ (put-room line (shown n) at (omega (arith, long, spells.before))) in
      record {
        says = rw (is, ← long) (sym (sets-append line at (shown n) (stop ∷ [])));
        count = omega (arith, length-append (shown n) (stop ∷ []), long);
        few = omega (arith, spells.before);
        fits = omega arith;
      }

  pub number-room : (line₁ : List ℕ) → line₁ ≡ put line at (take (room - start) (drop start bytes)) → at + (room - start) < length line₁
  number-room line₁ e = omega (arith, ap length e ∙ length-put line at (take (room - start) (drop start bytes)), spells.before)

pub digits-start : (n start : ℕ) (bytes : List ℕ) → Spells 2 (decimal n) start bytes → start ≤ length bytes
digits-start n start bytes s = s.within

pub digits-inside : (n start : ℕ) (bytes : List ℕ) → Spells 2 (decimal n) start bytes → start ≤ room
digits-inside n start bytes s = omega (arith, s.within, s.all)

-- ---- the byte behind a number
pub stop_last : (n : ℕ) → n ≡ 0 → 10 ≡ stop_before n
stop_last n e = rw (eq-eqb n 0 e)

pub stop_more : (n : ℕ) → (n ≡ 0 → ⊥) → 9 ≡ stop_before n
stop_more n e = rw (ne_eqb n 0 e)

stop_is : (xs : List ℕ) → stop_of xs ≡ stop_before (length xs)
stop_is [] = refl
stop_is (x ∷ xs) = rw (ne_eqb (suc (length xs)) 0 (λ e. omega arith))

-- ---- a line, number by number
pub record Lining (numbers line₀ line : List ℕ) (at i : ℕ) : Type 0 where
  pub within : i ≤ length numbers
  pub size : length line ≡ row_width * 21
  pub rest : sets line at (line_of (drop i numbers)) ≡ sets line₀ 0 (line_of numbers)
  pub count : at + length (line_of (drop i numbers)) ≡ length (line_of numbers)
  pub few : at ≤ 21 * i
  pub small : Small (drop i numbers) → Small numbers

pub lining_starts : (numbers line : List ℕ) → length line ≡ row_width * 21 → Lining numbers line line 0 0
lining_starts numbers line h =
    record { within = omega arith; size = h; rest = refl; count = omega arith; few = omega arith; small = λ s. s }

module _ (numbers line₀ line : List ℕ) (at i : ℕ) (w : Lining numbers line₀ line at i) (more : i < length numbers) where
  abbrev x : ℕ
  x = get_or numbers i 0

  abbrev xs : List ℕ
  xs = drop (i + 1) numbers

  pub lining_room : length numbers ≤ row_width → at + 21 ≤ length line
  lining_room h = omega (arith, w.few, w.size)

  pub lining_more : (stop r : ℕ) (line' : List ℕ) → PutsNumber x stop line at r line' → stop ≡ stop_before (length numbers - (i + 1))
      → Lining numbers line₀ line' r (i + 1)
  lining_more stop r line' p is_stop =
      let e : drop i numbers ≡ x ∷ xs = next numbers i more in
      let s : stop_of xs ≡ stop = stop_is xs ∙ rw (length-drop, is_stop) refl in
      let l : line_of (drop i numbers) ≡ (shown x ++ stop ∷ []) ++ line_of xs =
      rw (e, s) (sym (append_assoc (shown x) (stop ∷ []) (line_of xs))) in
      let n : length (line_of (drop i numbers)) ≡ length (shown x ++ stop ∷ []) + length (line_of xs) =
      ap length l ∙ length-append (shown x ++ stop ∷ []) (line_of xs) in
      record {
        within = omega arith;
        size = ap length p.says ∙ length-sets line at (shown x ++ stop ∷ []) ∙ w.size;
        rest = rw (p.says, p.count) (sym (sets-append line at (shown x ++ stop ∷ []) (line_of xs))) ∙ rw l at w.rest;
        count = omega (arith, w.count, p.count);
        few = omega (arith, w.few, p.few);
        small = λ m. w.small (rw e (p.fits, m));
      }

pub lining_done : (numbers line₀ line : List ℕ) (at i : ℕ) → Lining numbers line₀ line at i → length numbers ≤ i → length numbers ≤ row_width
    → Writes numbers line₀ at line
lining_done numbers line₀ line at i w h seven =
    let e : drop i numbers ≡ [] = done numbers i h in
    record {
      says = rw e at w.rest;
      count = let n : at + 0 ≡ length (line_of numbers) = rw e at w.count in omega arith;
      few = omega (arith, w.few, w.within);
      small = w.small (rw e tt);
    }

-- ---- a line in a buffer
pub line_front : (numbers line₀ : List ℕ) (n : ℕ) (line : List ℕ) → Writes numbers line₀ n line → length line₀ ≡ row_width * 21
    → take n line ≡ line_of numbers
line_front numbers line₀ n line w size =
    let room : 0 + length (line_of numbers) ≤ length line₀ = omega (arith, w.count, w.few) in
    rw (w.says, sets-eq (line_of numbers) line₀ 0 room) (take_at (line_of numbers) _ n (sym w.count))

pub line_count : (numbers line₀ : List ℕ) (n : ℕ) (line : List ℕ) → Writes numbers line₀ n line → length line ≡ row_width * 21
    → n ≡ length (take n line)
line_count numbers line₀ n line w size = sym (length-take-le n line (omega (arith, w.few)))

pub line_put : (numbers line₀ : List ℕ) (n : ℕ) (line b : List ℕ) (at : ℕ) (b' : List ℕ) → Writes numbers line₀ n line
    → length line₀ ≡ row_width * 21
    → b' ≡ put b at (take n line)
    → Puts numbers b at (at + n) b'
line_put numbers line₀ n line b at b' w size e =
    record {
      says = e ∙ ap (put b at) (line_front numbers line₀ n line w size);
      count = ap (λ (k : ℕ). at + k) w.count;
      few = omega (arith, w.few);
      small = w.small;
    }

-- ---- line after line
pub record Filling (rows : List ℕ) (count number : ℕ) (b₀ b : List ℕ) (at k : ℕ) : Type 0 where
  pub within : k ≤ count
  pub size : length b ≡ length b₀
  pub rest : puts b at (closed (rows_in (count - k) (drop (k * row_width) rows)) number) ≡ puts b₀ 0 (closed (rows_in count rows) number)
  pub total : at + length (text_of (closed (rows_in (count - k) (drop (k * row_width) rows)) number)) ≡ length (text_of (closed (rows_in count rows) number))
  pub few : at ≤ row_width * 21 * k
  pub small : Every Small (closed (rows_in (count - k) (drop (k * row_width) rows)) number) → Every Small (closed (rows_in count rows) number)

pub filling_starts : (rows : List ℕ) (count number : ℕ) (b : List ℕ) → Filling rows count number b b 0 0
filling_starts rows count number b =
    let e : count - 0 ≡ count = omega arith in
    record { within = omega arith; size = refl; rest = rw e refl; total = rw e (omega arith); few = omega arith; small = rw e (λ s. s) }

-- the rows from row k on
pub rows_next : (rows : List ℕ) (count k : ℕ) → k < count
    → rows_in (count - k) (drop (k * row_width) rows) ≡ take row_width (drop (k * row_width) rows) ∷ rows_in (count - (k + 1)) (drop ((k + 1) * row_width) rows)
rows_next rows count k h =
    let e : count - k ≡ suc (count - (k + 1)) = omega arith in
    let d : k * row_width + row_width ≡ (k + 1) * row_width = omega arith in
    rw (e, drop-drop row_width (k * row_width) rows, d) refl

pub rows_none : (rows : List ℕ) (count k : ℕ) → count ≤ k → rows_in (count - k) (drop (k * row_width) rows) ≡ []
rows_none rows count k h = let e : count - k ≡ 0 = omega arith in rw e refl

module _ (rows : List ℕ) (count number : ℕ) (b₀ b : List ℕ) (at k : ℕ) (w : Filling rows count number b₀ b at k) where
  pub filling_few : count ≤ 128 → at < 65536
  filling_few h = omega (arith, w.few, w.within)

  pub filling_more : (r : ℕ) (b' : List ℕ) → Puts (take (k * row_width + row_width - k * row_width) (drop (k * row_width) rows)) b at r b' → k < count
      → Filling rows count number b₀ b' r (k + 1)
  filling_more r b' p h =
      let s : k * row_width + row_width - k * row_width ≡ row_width = omega arith in
      let q : Puts (take row_width (drop (k * row_width) rows)) b at r b' = rw s at p in
      let line : List ℕ = line_of (take row_width (drop (k * row_width) rows)) in
      let e = rows_next rows count k h in
      let rest : List (List ℕ) = closed (rows_in (count - (k + 1)) (drop ((k + 1) * row_width) rows)) number in
      let n : at + (length (line_of (take row_width (drop (k * row_width) rows))) + length (text_of rest)) ≡ length (text_of (closed (rows_in count rows) number)) =
      rw (e, length-append) at w.total in
      record {
        within = omega arith;
        size = ap length q.says ∙ length-put b at (line_of (take row_width (drop (k * row_width) rows))) ∙ w.size;
        rest = rw (q.says, q.count) (rw e at w.rest);
        total = omega (arith, q.count);
        few = omega (arith, w.few, q.few);
        small = λ m. w.small (rw e (q.small, m));
      }

  pub filling_done : (r : ℕ) (b' : List ℕ) → Puts (number ∷ []) b at r b' → count ≤ k
      → PutsAll (closed (rows_in count rows) number) b₀ r b'
  filling_done r b' p h =
      let e = rows_none rows count k h in
      let n : at + length (text_of ((number ∷ []) ∷ [])) ≡ length (text_of (closed (rows_in count rows) number)) = rw e at w.total in
      record {
        says = p.says ∙ rw e at w.rest;
        count = p.count ∙ ap (λ (l : List ℕ). at + length l) (sym (append-nil (line_of (number ∷ [])))) ∙ n;
        small = w.small (rw e (p.small, tt));
      }

pub slice_seven : (rows : List ℕ) (k : ℕ) → (k + 1) * row_width ≤ length rows
    → length (take (k * row_width + row_width - k * row_width) (drop (k * row_width) rows)) ≤ row_width
slice_seven rows k h =
    let s : k * row_width + row_width - k * row_width ≡ row_width = omega arith in
    let n : length (drop (k * row_width) rows) ≡ length rows - k * row_width = length-drop (k * row_width) rows in
    rw s (omega (arith, length-take-le row_width (drop (k * row_width) rows) (omega arith)))

pub ruleset laws = (
  bytes_put,
  number_put,
  number-room,
  digits-start,
  digits-inside,
  stop_last,
  stop_more,
  lining_starts,
  lining_room,
  lining_more,
  lining_done,
  line_count,
  line_put,
  filling_starts,
  filling_few,
  filling_more,
  filling_done,
  slice_seven,
)
