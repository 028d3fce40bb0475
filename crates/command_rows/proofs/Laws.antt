-- Laws of a command's rows in a table: those of rows of any width, at ten. Assumes nothing.
use mathlib.Core.Path.{◌≡◌, refl, sym, ap, ◌∙◌}
use mathlib.Core.Bool.{Bool, true, false}
use mathlib.Core.List.{List, [], ◌∷◌, ◌++◌, map}
use Prim.Native.Nat.{ℕ, zero, suc, ◌+◌, ◌-◌, ◌*◌, ◌/◌, ◌≤◌, ◌<◌}
use native.Mathlib.Nat.{zero-sub, sub-zero, suc-sub-suc}
use native.Mathlib.Decide.{dec_le, dec_lt}
use native.Mathlib.Omega.{arith}
use lib.Dec.{leb}
use lib.ListN.{length, take, drop, length-map, length-drop, drop_of_length-le}
use borrow.Author.Tests.{le-leb, lt-leb, le-ltb, lt-ltb}
use Rattle.rows.specs.Rows.{put}
use Rattle.rows.specs.Parts.{puts, Wide}
use Rattle.rows.proofs.Parts as rows
use Rattle.command_rows.specs.Rows.{written, row_at, left_out}
use Rattle.command_rules.specs.Rows.{row_width, numbers, table}
use Rattle.command_rules.specs.declared.Row.{Row}

wide : (rs : List Row) → Wide row_width (map numbers rs)
wide [] = tt
wide (r ∷ rs) = (refl, wide rs)

map-append : (rs ss : List Row) → map numbers (rs ++ ss) ≡ map numbers rs ++ map numbers ss
map-append [] ss = refl
map-append (r ∷ rs) ss = ap (λ (l : List (List ℕ)). numbers r ∷ l) (map-append rs ss)

drop-append : (n : ℕ) (rs ss : List Row) → drop n (rs ++ ss) ≡ drop n rs ++ drop (n - length rs) ss
drop-append zero rs ss = rw zero-sub refl
drop-append (suc n) [] ss = rw sub-zero refl
drop-append (suc n) (r ∷ rs) ss = rw suc-sub-suc (drop-append n rs ss)

-- ---- write_row, row_at

pub write_one : (s : ℕ) (t : List ℕ) (k : ℕ) (row : Row) (ns t' : List ℕ) → s ≤ k → ns ≡ numbers row
    → t' ≡ put t ((k - s) * row_width) ns
    → t' ≡ written s t k (row ∷ [])
unfolding written puts
write_one s t k row ns t' h en et = let z : s - k ≡ 0 = omega arith in rw z (rw en at et)

-- rows that are all passed over
pub written_passed : (s : ℕ) (t : List ℕ) (k : ℕ) (rs : List Row) → length rs ≤ s - k → written s t k rs ≡ t
unfolding written puts
written_passed s t k rs h = rw (drop_of_length-le rs h) refl

pub write_passed : (s : ℕ) (t : List ℕ) (k : ℕ) (row : Row) → k < s → t ≡ written s t k (row ∷ [])
write_passed s t k row h = sym (written_passed s t k (row ∷ []) (omega arith))

pub row_inside : (s k n d : ℕ) → d ≡ k - s → d * row_width ≤ n → d * row_width ≡ row_at s k n
unfolding row_at
row_inside s k n d e h = rw (← e, le-leb (d * row_width) n h)

pub row-past : (s k n d : ℕ) → d ≡ k - s → n < d * row_width → n ≡ row_at s k n
unfolding row_at
row-past s k n d e h = rw (← e, lt-leb (d * row_width) n h)

pub left_out_full : (s c n : ℕ) → n < row_width → true ≡ left_out s c n
left_out_full s c n h = rw (lt-ltb n row_width h) refl

pub left_out_passed : (s c n : ℕ) (b : Bool) → b ≡ leb c s → row_width ≤ n → b ≡ left_out s c n
left_out_passed s c n b e h = rw (le-ltb n row_width h) e

pub ruleset laws = (write_one, write_passed, row_inside, row-past, left_out_full, left_out_passed)

-- ---- rows after rows

pub written_none : (s : ℕ) (t : List ℕ) (k : ℕ) → written s t k [] ≡ t
written_none s t k = written_passed s t k [] (omega arith)

pub length-written : (s : ℕ) (t : List ℕ) (k : ℕ) (rs : List Row) → length (written s t k rs) ≡ length t
unfolding written
length-written s t k rs = rows.length-puts row_width t (k - s) (map numbers (drop (s - k) rs))

pub written-append : (s : ℕ) (t : List ℕ) (k : ℕ) (rs ss : List Row) → written s t k (rs ++ ss) ≡ written s (written s t k rs) (k + length rs) ss
unfolding written
written-append s t k rs ss =
    let a : k - s + length (map numbers (drop (s - k) rs)) ≡ k + length rs - s = rw (length-map, length-drop) (omega arith) in
    let b : s - k - length rs ≡ s - (k + length rs) = omega arith in
    rw (
      drop-append (s - k) rs ss,
      map-append (drop (s - k) rs) (drop (s - k - length rs) ss),
      rows.puts-append row_width t (k - s) (map numbers (drop (s - k) rs)) (map numbers (drop (s - k - length rs) ss)),
      a,
      b,
    ) refl

-- the same, with the place where the second begins
pub written-more : (s : ℕ) (t : List ℕ) (k : ℕ) (rs ss : List Row) (m : ℕ) → m ≡ k + length rs
    → written s (written s t k rs) m ss ≡ written s t k (rs ++ ss)
written-more s t k rs ss m e = rw e (sym (written-append s t k rs ss))

-- where there is no room nothing is written
pub written-full : (s : ℕ) (t : List ℕ) (k : ℕ) (rs : List Row) → length t < (k - s + 1) * row_width → written s t k rs ≡ t
unfolding written
written-full s t k rs h = rows.puts-full row_width t (k - s) (map numbers (drop (s - k) rs)) (wide (drop (s - k) rs)) h

-- where all are left out nothing is written
pub written-left_out : (s : ℕ) (t : List ℕ) (k : ℕ) (rs : List Row) (c : ℕ) (b : Bool) → b ≡ left_out s c (length t) → c ≡ k + length rs
    → b ≡ true
    → written s t k rs ≡ t
written-left_out s t k rs c b is all e = go (dec_lt (length t) row_width) (dec_le c s)
  where
    go : Dec (length t < row_width) → Dec (c ≤ s) → written s t k rs ≡ t
    go (yes h) o = written-full s t k rs (omega arith)
    go (no h) (yes l) = written_passed s t k rs (omega arith)
    go (no h) (no l) =
        absurd
        (let z : ◌≡◌ {A = Bool} false true = rw (le-ltb (length t) row_width (omega arith), lt-leb c s (omega arith)) at (sym is ∙ e) in
        let w : ◌≡◌ {A = ℕ} 0 1 = cc in
        omega arith)

-- where there is room for all, they stand in front of what stood behind them
pub written-table : (t : List ℕ) (rs : List Row) → length rs ≤ length t / row_width → written 0 t 0 rs ≡ table t rs
unfolding written table
written-table t rs h = rows.puts-laid row_width t (map numbers rs) (wide rs) (rw length-map (omega arith))

-- a table of one row has the first that is not passed over
pub written_one : (s : ℕ) (t : List ℕ) (rs : List Row) (r : Row) (ss : List Row) → length t ≡ row_width → drop s rs ≡ r ∷ ss
    → written s t 0 rs ≡ table t (r ∷ [])
unfolding written table
written_one s t rs r ss h e =
    let n : length (puts row_width t 0 (numbers r ∷ [])) ≡ length t = rows.length-puts row_width t 0 (numbers r ∷ []) in
    rw (zero-sub, sub-zero, e)
    (rows.puts-append row_width t 0 (numbers r ∷ []) (map numbers ss)
    ∙ rows.puts-full row_width (puts row_width t 0 (numbers r ∷ [])) 1 (map numbers ss) (wide ss) (omega arith)
    ∙ rows.puts-laid row_width t (numbers r ∷ []) (wide (r ∷ [])) (omega arith))

-- rows in a part of the table: what was lent, and what comes back
pub part_back : (s : ℕ) (t ys : List ℕ) (k at less : ℕ) (rs : List Row) → at ≡ row_at s k (length t) → less ≡ s - k
    → ys ≡ written less (take (length t - at) (drop at t)) 0 rs
    → take at t ++ (ys ++ drop (length t - at) (drop at t)) ≡ written s t k rs
unfolding written row_at
part_back s t ys k at less rs e el ey =
    rows.part_back row_width t ys (k - s) at (map numbers (drop (s - k) rs)) (wide (drop (s - k) rs)) e (rw (zero-sub, sub-zero, el) at ey)

-- a row that is written after those that follow it
pub written-first : (s : ℕ) (t : List ℕ) (r : Row) (rs : List Row) → written s (written s t 1 rs) 0 (r ∷ []) ≡ written s t 0 (r ∷ rs)
unfolding written
written-first zero t r rs = rows.puts_first row_width t (numbers r) (map numbers rs) refl (wide rs)
written-first (suc s) t r rs =
    let a : 1 - suc s ≡ 0 - suc s = omega arith in
    let b : suc s - 1 ≡ s = omega arith in
    let c : suc s - 0 ≡ suc s = omega arith in
    written_passed (suc s) (written (suc s) t 1 rs) 0 (r ∷ []) (omega arith) ∙ rw (a, b, c) refl
