-- The laws of the frame table: a row's numbers, one more record in a table that is being filled, and how many are filled.
-- Assumes nothing.
use mathlib.Core.Path.{◌≡◌, refl, sym, ap, ◌∙◌}
use mathlib.Core.Bool.{Bool, true, false, cond, not, ◌&&◌}
use mathlib.Core.List.{List, [], ◌∷◌, ◌++◌, append_assoc}
use Prim.Native.Nat.{ℕ, zero, suc, ◌+◌, ◌*◌, ◌/◌, ◌%◌, ◌≤◌, ◌<◌}
use native.Mathlib.Numerals.{add-one}
use native.Mathlib.Omega.{arith}
use lib.Dec.{eqb, leb}
use lib.ListN.{length, get_or, drop, set, length-append, length-drop}
use lib.Seq.{drop-cons, drop-drop, get_or-drop, set_at}
use borrow.Author.Tests.{leb-true, le-leb, lt-leb}
use mir.Syntax.{w8}
use mir.Val.{to_z, of_z}
use mir.ValLaws.{to_z-of_z}
use mir.Facts.{sfits_to_z}
use lib.IntN.{ℤ}
use Rattle.screen.specs.declared.FrameRecord.{FrameRecord}
use Rattle.screen.specs.Screen.{record_of, records_of, filled, fillable_of}
use Rattle.pti.specs.Payload.{row_width}

-- the record of flat row i
abbrev pub record_at : List ℕ → ℕ → FrameRecord
record_at rows i = record_of (drop (i * row_width) rows)

records-length : (n : ℕ) (rows : List ℕ) → length (records_of n rows) ≡ n
records-length zero rows = refl
records-length (suc n) rows = ap suc (records-length n (drop row_width rows))

-- one record more, at the end
records-more : (n : ℕ) (rows : List ℕ) → records_of (suc n) rows ≡ records_of n rows ++ (record_at rows n ∷ [])
records-more zero rows = refl
records-more (suc n) rows =
    let e : row_width + n * row_width ≡ suc n * row_width = omega arith in
    ap (λ l. record_of rows ∷ l) (records-more n (drop row_width rows) ∙ rw (drop-drop, e))

pub filled-length : (rows : List ℕ) (i : ℕ) (entry : List FrameRecord) → i ≤ length entry → length (filled i rows entry) ≡ length entry
filled-length rows i entry h = length-append (records_of i rows) (drop i entry) ∙ omega (arith, records-length i rows, length-drop i entry)

-- record i is stored where i records are filled
pub filled_more : (rows : List ℕ) (i : ℕ) (entry : List FrameRecord) → i < length entry
    → set (filled i rows entry) i (record_at rows i) ≡ filled (i + 1) rows entry
filled_more rows i entry h =
    let r = record_at rows i in
    rw (add-one, drop-cons entry i r h, set_at (records_of i rows) (get_or entry i r) (drop (suc i) entry) r i (records-length i rows))
    (sym (append_assoc (records_of i rows) (r ∷ []) (drop (suc i) entry)) ∙ ap (λ l. l ++ drop (suc i) entry) (sym (records-more i rows)))

-- there are as many records as are filled, and as many flat rows
pub fillable_bounds : (n records numbers : ℕ) → (fillable_of n records numbers ≤ records) × (fillable_of n records numbers * row_width ≤ numbers)
unfolding fillable_of
fillable_bounds n records numbers = by_test (leb n records) (leb n (numbers / row_width)) (leb-true n records) (leb-true n (numbers / row_width))
  where
    by_test : (t u : Bool) → (t ≡ true → n ≤ records) → (u ≡ true → n ≤ numbers / row_width) → (cond (t && u) n 0 ≤ records)
        × (cond (t && u) n 0 * row_width ≤ numbers)
    by_test true true h k = (h refl, omega (arith, k refl))
    by_test true false h k = (omega arith, omega arith)
    by_test false u h k = (omega arith, omega arith)

-- `fillable`, at each `return`
module _ (n records numbers : ℕ) where
  pub fillable_short : records < n → 0 ≡ fillable_of n records numbers
  unfolding fillable_of
  fillable_short h = rw (lt-leb n records h)

  pub fillable_few : n ≤ records → numbers / row_width < n → 0 ≡ fillable_of n records numbers
  unfolding fillable_of
  fillable_few h l = rw (le-leb n records h, lt-leb n (numbers / row_width) l)

  pub fillable_all : n ≤ records → n ≤ numbers / row_width → n ≡ fillable_of n records numbers
  unfolding fillable_of
  fillable_all h l = rw (le-leb n records h, le-leb n (numbers / row_width) l)

-- a byte read as a signed number comes back as that number
byte_back : (byte : ℕ) → to_z w8 (of_z w8 (to_z w8 (byte % 256))) ≡ to_z w8 (byte % 256)
byte_back byte = to_z-of_z w8 (to_z w8 (byte % 256)) (sfits_to_z {w = w8} {n = byte % 256} (record { fits = omega arith }))

-- flat row i, number by number, with its RSSI read as a signed number
pub record-made : (rows : List ℕ) (i : ℕ) (rssi : ℤ) → rssi ≡ to_z w8 (get_or rows (i * row_width + 4) 0 % 256)
    → record {
      direction = get_or rows (i * row_width + 0) 0 % 256;
      region = get_or rows (i * row_width + 1) 0 % 256;
      channel = get_or rows (i * row_width + 2) 0 % 256;
      rate = get_or rows (i * row_width + 3) 0 % 256;
      rssi = to_z w8 (of_z w8 rssi);
      is_beam = not (eqb (get_or rows (i * row_width + 5) 0) 0);
      beams = get_or rows (i * row_width + 5) 0;
      start = get_or rows (i * row_width + 6) 0;
      length = get_or rows (i * row_width + 7) 0;
      number = get_or rows (i * row_width + 8) 0;
      place = get_or rows (i * row_width + 9) 0;
      node = get_or rows (i * row_width + 10) 0;
      hash = get_or rows (i * row_width + 11) 0;
      power = get_or rows (i * row_width + 12) 0;
    }
    ≡ record_at rows i
unfolding record_of
record-made rows i rssi e =
    let at : (j : ℕ) → get_or rows (i * row_width + j) 0 ≡ get_or (drop (i * row_width) rows) j 0 = λ j. sym (get_or-drop (i * row_width) rows j 0) in
    let s : to_z w8 (of_z w8 rssi) ≡ to_z w8 (get_or (drop (i * row_width) rows) 4 0 % 256) = rw (e, at 4) (byte_back (get_or (drop (i * row_width) rows) 4 0)) in
    λ k. record {
      direction = at 0 k % 256;
      region = at 1 k % 256;
      channel = at 2 k % 256;
      rate = at 3 k % 256;
      rssi = s k;
      is_beam = not (eqb (at 5 k) 0);
      beams = at 5 k;
      start = at 6 k;
      length = at 7 k;
      number = at 8 k;
      place = at 9 k;
      node = at 10 k;
      hash = at 11 k;
      power = at 12 k;
    }

pub ruleset laws = (fillable_short, fillable_few, fillable_all, record-made)
