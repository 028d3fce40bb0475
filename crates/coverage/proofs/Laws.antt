-- Laws of the counts of lines. Assumes nothing.
use mathlib.Core.Path.{◌≡◌, refl, sym, ap, ◌∙◌}
use mathlib.Core.List.{List, [], ◌∷◌, ◌++◌}
use Prim.Native.Nat.{ℕ, suc, ◌+◌, ◌-◌, ◌*◌, ◌≤◌, ◌<◌}
use native.Mathlib.Omega.{arith}
use mir.Syntax.{w64}
use mir.Val.{Fits}
use lib.ListN.{length, get_or, set, replicate, length-replicate}
use borrow.Author.Tests.{le-leb, lt-leb, lt-ltb, le-ltb, eq-eqb, ne_eqb}
use Rattle.refusal.specs.declared.Refusal.{Refusal}
use Rattle.refusal.specs.Refusal.{number_of}
use Rattle.header_rules.specs.Table.{row_width, most_numbers, cell, number_column, symbol_column}
use Rattle.header.specs.declared.DecodedHeader.{DecodedHeader}
use Rattle.header.specs.Decode.{decoded, told_of, table_after, Decodes}
use Rattle.header.proofs.Room.{Stands, header-stands}
use Rattle.totals.specs.Totals.{most}
use Rattle.std.specs.Prelude.{Result, Ok, Err}
use Rattle.coverage.specs.Coverage.{
  headers,
  params,
  entries,
  params_at,
  entries_at,
  refused_at,
  no_set,
  size,
  place_in,
  entry_place,
  refused_place,
  set_at,
  row_places,
  rows_from,
  answer_places,
  table_of,
  frame_places,
  raised,
  raised_all,
}

-- ---- one more at a place
module _ (counts : List ℕ) (i : ℕ) where
  pub raised-past : size ≤ i → counts ≡ raised counts i
  raised-past h = rw (le-ltb i size h) refl

  pub raised-full : i < size → most ≤ get_or counts i 0 → counts ≡ raised counts i
  raised-full h full = rw (lt-ltb i size h, le-ltb (get_or counts i 0) most full) refl

  pub raised_one : i < size → get_or counts i 0 < most → set counts i (get_or counts i 0 + 1) ≡ raised counts i
  raised_one h low = rw (lt-ltb i size h, lt-ltb (get_or counts i 0) most low) refl

  pub raised-fits : get_or counts i 0 < most → Fits w64 (get_or counts i 0 + 1)
  raised-fits low = omega arith

-- ---- the places
pub placed_in : (from n k : ℕ) → k < n → from + k ≡ place_in from n k
placed_in from n k h = rw (lt-ltb k n h) refl

pub placed_out : (from n k : ℕ) → n ≤ k → size ≡ place_in from n k
placed_out from n k h = rw (le-ltb k n h) refl

pub entry_none : (d symbol : ℕ) → symbol ≡ 0 → size ≡ entry_place d symbol
entry_none d symbol e = rw (eq-eqb symbol 0 e) refl

pub entry_past : (d symbol : ℕ) → (symbol ≡ 0 → ⊥) → 64 < symbol → size ≡ entry_place d symbol
entry_past d symbol some h = rw (ne_eqb symbol 0 some, lt-leb symbol 64 h) refl

pub entry_in : (d symbol r : ℕ) → r ≡ place_in entries_at entries (d * 64 + symbol - 1) → (symbol ≡ 0 → ⊥) → symbol ≤ 64
    → r ≡ entry_place d symbol
entry_in d symbol r e some h = rw (ne_eqb symbol 0 some, le-leb symbol 64 h) e

pub set_in_lem : (sets : List ℕ) (k : ℕ) → k < params → get_or sets k 0 ≡ set_at sets k
set_in_lem sets k h = rw (lt-ltb k params h) refl

pub set-none : (sets : List ℕ) (k : ℕ) → params ≤ k → no_set ≡ set_at sets k
set-none sets k h = rw (le-ltb k params h) refl

-- ---- a row
pub row-counted : (sets : List ℕ) (number symbol p d q : ℕ) (a b c : List ℕ) → p ≡ place_in params_at params number → b ≡ raised a p
    → d ≡ set_at sets number
    → q ≡ entry_place d symbol → c ≡ raised b q → c ≡ raised_all a (row_places sets number symbol)
row-counted sets number symbol p d q a b c is_p is_b is-d is-q is_c = rw (is_c, is-q, is-d, is_b, is_p) refl

-- ---- row by row: with those that are left counted, the counts are those of all rows
pub raised-append : (counts is js : List ℕ) → raised_all counts (is ++ js) ≡ raised_all (raised_all counts is) js
raised-append counts [] js = refl
raised-append counts (i ∷ is) js = raised-append (raised counts i) is js

pub record Counting (sets rows counts₀ counts : List ℕ) (k n : ℕ) : Type 0 where
  pub rest : raised_all counts (rows_from sets rows k (n - k)) ≡ raised_all counts₀ (rows_from sets rows 0 n)
  pub few : k ≤ n
  pub inside : n * row_width ≤ length rows

pub counting_starts : (sets rows counts : List ℕ) (n : ℕ) → n * row_width ≤ length rows → Counting sets rows counts counts 0 n
counting_starts sets rows counts n h = let z : n - 0 ≡ n = omega arith in record { rest = rw z refl; few = omega arith; inside = h }

module _ (sets rows counts₀ counts : List ℕ) (k n : ℕ) (inv : Counting sets rows counts₀ counts k n) where
  pub counting_done : n ≤ k → counts ≡ raised_all counts₀ (rows_from sets rows 0 n)
  counting_done h = let z : n - k ≡ 0 = omega arith in rw z at inv.rest

  module _ (h : k < n) where
    pub counting_at : k * row_width + row_width ≤ length rows
    counting_at = omega (arith, inv.inside)

    pub counting_more : (counts' : List ℕ)
        → counts' ≡ raised_all counts (row_places sets (cell rows k number_column) (cell rows k symbol_column))
        → Counting sets rows counts₀ counts' (k + 1) n
    counting_more counts' e =
        let z : n - k ≡ suc (n - (k + 1)) = omega arith in
        let places = row_places sets (cell rows k number_column) (cell rows k symbol_column) in
        record {
          rest = rw e (sym (raised-append counts places (rows_from sets rows (k + 1) (n - (k + 1)))) ∙ rw z at inv.rest);
          few = omega arith;
          inside = inv.inside;
        }

-- ---- a refusal
module _ (x : Refusal) (n : ℕ) (is : n ≡ number_of x) (a : List ℕ) where
  pub refused-low : n < 5 → a ≡ raised a (refused_place (number_of x))
  refused-low h = rw (← is, lt-leb 5 n h) refl

  pub refused_one : (b : List ℕ) → b ≡ raised a (refused_at + n) → 5 ≤ n → b ≡ raised a (refused_place (number_of x))
  refused_one b e h = rw (← is, le-leb 5 n h) e

-- ---- a header
module _ (sets t d : List ℕ) (region speed : ℕ) (r : Result DecodedHeader Refusal) (rows : List ℕ)
    (dec : Decodes t d region speed (replicate {A = ℕ} 896 0) r rows) where
  full : length (replicate {A = ℕ} 896 0) ≡ 896
  full = length-replicate {A = ℕ} 896 0

  answer_is : r ≡ decoded t d region speed most_numbers
  answer_is = dec.answer ∙ ap (decoded t d region speed) full

  rows_are : rows ≡ table_of t d region speed
  rows_are =
      let zeros : List ℕ = replicate {A = ℕ} 896 0 in
      dec.rows ∙ ap (λ (n : ℕ). table_after zeros (told_of t d region speed n) r) full
      ∙ ap (λ (x : Result DecodedHeader Refusal). table_after zeros (told_of t d region speed most_numbers) x) answer_is

  places : frame_places sets t d region speed ≡ answer_places sets rows r
  places = rw (rows_are, answer_is) refl

  pub header-rows : (h : DecodedHeader) → r ≡ Ok h → length rows ≡ 896 → h.rows * row_width ≤ length rows
  header-rows h e long =
      let stands : Stands 896 (Ok h) = rw (full, e) at (header-stands t d region speed (replicate {A = ℕ} 896 0) r rows dec) in
      omega (arith, stands)

  pub header-counted : (h : DecodedHeader) (p : ℕ) (a b c : List ℕ) → r ≡ Ok h → p ≡ place_in 0 headers h.number → b ≡ raised a p
      → c ≡ raised_all b (rows_from sets rows 0 h.rows) → c ≡ raised_all a (frame_places sets t d region speed)
  header-counted h p a b c e is_p is_b is_c = rw (places, e, is_c, is_b, is_p) refl

  pub header_refused : (x : Refusal) (a b : List ℕ) → r ≡ Err x → b ≡ raised a (refused_place (number_of x))
      → b ≡ raised_all a (frame_places sets t d region speed)
  header_refused x a b e is_b = rw (places, e) is_b

pub ruleset laws = (
  raised-past,
  raised-full,
  raised_one,
  raised-fits,
  placed_in,
  placed_out,
  entry_none,
  entry_past,
  entry_in,
  set_in_lem,
  set-none,
  row-counted,
  counting_starts,
  counting_done,
  counting_at,
  counting_more,
  refused-low,
  refused_one,
  header-rows,
  header-counted,
  header_refused,
)
