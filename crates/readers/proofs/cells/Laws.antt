-- A number of a row lies inside a table, whatever the rows' width, and what it says. Assumes nothing.
use mathlib.Core.Path.{◌≡◌}
use mathlib.Core.List.{List}
use Prim.Native.Nat.{ℕ, ◌+◌, ◌-◌, ◌*◌, ◌/◌, ◌^◌, ◌<◌, ◌≤◌}
use native.Mathlib.Nat.{suc-mul, mul-le-mul_right, div-mul-le_self}
use native.Mathlib.Omega.{arith}
use mir.Syntax.{w64}
use mir.Val.{Fits}
use lib.ListN.{length, get_or, take, drop}
use borrow.Author.Tests.{lt-ltb, le-ltb, le-leb, lt-leb}
use Rattle.readers.specs.Cells.{cell_of, part_from}

module _ (n w i k : ℕ) (in-width : k < w) (in_rows : i < n / w) where
  pub inside : i * w + k < n
  inside =
      let row : i * w + w ≤ n / w * w = rw (← suc-mul) (mul-le-mul_right w in_rows) in
      omega (arith, div-mul-le_self n w)

  pub row_fits : n < 2 ^ 64 → Fits w64 (i * w)
  row_fits fits = omega (arith, inside)

  pub number_fits : n < 2 ^ 64 → Fits w64 (i * w + k)
  number_fits fits = omega (arith, inside)

-- ---- what a row says
pub cell_wide : (rows : List ℕ) (w i k : ℕ) → w ≤ k → 0 ≡ cell_of rows w i k
cell_wide rows w i k h = rw (le-ltb k w h)

pub cell-past : (rows : List ℕ) (w i k : ℕ) → k < w → length rows / w ≤ i → 0 ≡ cell_of rows w i k
cell-past rows w i k h l = rw (lt-ltb k w h, le-ltb i (length rows / w) l)

pub cell_there : (rows : List ℕ) (w i k : ℕ) → k < w → i < length rows / w → get_or rows (i * w + k) 0 ≡ cell_of rows w i k
cell_there rows w i k h l = rw (lt-ltb k w h, lt-ltb i (length rows / w) l)

pub ruleset laws = (inside, row_fits, number_fits, cell_wide, cell-past, cell_there)

-- ---- a part of bytes
pub part-past : (s : List ℕ) (start count : ℕ) → length s < start → take 0 s ≡ part_from s start count
part-past s start count h = rw (lt-leb (start + count) (length s) (omega arith))

pub part-short : (s : List ℕ) (start count : ℕ) → start ≤ length s → length s - start < count → take 0 s ≡ part_from s start count
part-short s start count h l = rw (lt-leb (start + count) (length s) (omega arith))

pub part_there : (s : List ℕ) (start count : ℕ) → start ≤ length s → count ≤ length s - start
    → take (start + count - start) (drop start s) ≡ part_from s start count
part_there s start count h l = let z : start + count - start ≡ count = omega arith in rw (z, le-leb (start + count) (length s) (omega arith))

pub ruleset part_laws = (part-past, part-short, part_there)
