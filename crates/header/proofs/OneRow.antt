-- The one row that is wanted is that of the whole table. Assumes nothing.
use mathlib.Core.Path.{◌≡◌, refl, sym, ap, ◌∙◌}
use mathlib.Core.Bool.{Bool, true, false, cond}
use mathlib.Core.List.{List, [], ◌∷◌, ◌++◌, append_assoc}
use Prim.Native.Nat.{ℕ, zero, suc, ◌+◌, ◌*◌, ◌/◌, ◌≤◌, ◌<◌}
use native.Mathlib.Nat.{zero-add}
use native.Mathlib.Omega.{arith}
use lib.Dec.{leb, ltb}
use lib.ListN.{length, get_or, take, drop, length-take, get_or-append}
use lib.Seq.{sets, sets-eq, get_or-append-add}
use Rattle.refusal.specs.declared.Refusal.TheVariants.{TooLong, TooShort}
use Rattle.rows.specs.Rows.{put, flat, laid}
use Rattle.rows.specs.Parts.{Wide}
use Rattle.rows.proofs.Laws.{put-room}
use Rattle.frame_text.specs.Rules.{verdict}
use Rattle.crc.specs.Crc.{right}
use Rattle.frame_definition.specs.Definition.{Base, Definition, Set, definition, first_base}
use Rattle.header_rules.specs.Data.{Field}
use Rattle.header_rules.specs.Answer.{Answer, answered, refused, answer}
use Rattle.header_rules.specs.Table.{row_width, numbers_of, rows_each, inner_table, table_from, table_of}
use Rattle.header_rules.specs.Trees.{trees}
use Rattle.header_rules.specs.Told.{Told, no_base, no_candidate, more_rows, header, heading_of, of_answer, of_base, candidates_of, told}
use Rattle.header.specs.declared.DecodedHeader.{DecodedHeader}
use Rattle.header.specs.declared.Wanted.TheVariants.{One}
use Rattle.header.specs.Decode.{header_of, of_told, judged, key_of, told_of, decoded, rows_of, table_after}
use Rattle.header.specs.Steps.{Answers}
use Rattle.std.specs.Prelude.{Option, Some, None, Result, Ok, Err}
use Rattle.refusal.specs.declared.Refusal.{Refusal}

-- ---- a row has seven numbers
wide_append : (rs ss : List (List ℕ)) → Wide row_width rs → Wide row_width ss → Wide row_width (rs ++ ss)
wide_append [] ss a b = b
wide_append (r ∷ rs) ss a b = (a.0, wide_append rs ss a.1 b)

each_wide : {F : Type 0} (rows_at : ℕ → F → List (List ℕ)) → ((m : ℕ) (f : F) → Wide row_width (rows_at m f)) → (at : ℕ) (fs : List F)
    → Wide row_width (rows_each rows_at at fs)
unfolding rows_each
each_wide rows_at wide at [] = tt
each_wide rows_at wide at (f ∷ fs) =
    wide_append (rows_at at f) (rows_each rows_at (at + length (rows_at at f)) fs) (wide at f) (each_wide rows_at wide (at + length (rows_at at f)) fs)

inner_wide : (n : ℕ) (d : List ℕ) (sets : List Set) (at : ℕ) (f : Field n) → Wide row_width (inner_table n d sets at f)
unfolding inner_table numbers_of
inner_wide zero d sets at f = tt
inner_wide (suc n) d sets at f =
    each_wide (λ m g. numbers_of d sets at g ∷ inner_table n d sets (m + 1) g) (λ m g. (refl, inner_wide n d sets (m + 1) g)) at f.inner

table_wide : (n : ℕ) (d : List ℕ) (sets : List Set) (fs : List (Field n)) → Wide row_width (table_of n d sets fs)
unfolding table_from numbers_of
table_wide n d sets fs =
    each_wide (λ m g. numbers_of d sets 0 g ∷ inner_table n d sets (m + 1) g) (λ m g. (refl, inner_wide n d sets (m + 1) g)) 0 fs

pub told_wide : (def : Definition) (d : List ℕ) (most key : ℕ) → Wide row_width (rows_of (told def d most key))
unfolding told
told_wide def d most key = go (first_base key def.bases)
  where
    given : (a : Answer 7) → Wide row_width (rows_of (of_answer def.sets d most a))
    given (refused k) = tt
    given (answered c fs) = fits (leb (length (table_of 7 d def.sets fs)) most)
      where
        fits : (b : Bool)
            → Wide row_width (rows_of (cond b (header (heading_of def.sets d c fs)) (more_rows (length (table_of 7 d def.sets fs)))))
        fits true = table_wide 7 d def.sets fs
        fits false = tt

    go : (b : Option Base) → Wide row_width (rows_of (of_base def d most key b))
    go None = tt
    go (Some b) = given (answer 7 d (trees b.params) (candidates_of key def))

-- ---- a number of a row
number_in : (rs : List (List ℕ)) (rest : List ℕ) (k c : ℕ) → Wide row_width rs → k < length rs → c < row_width
    → get_or (flat rs ++ rest) (k * row_width + c) 0 ≡ get_or (get_or rs k []) c 0
number_in [] rest k c wide h l = absurd (omega arith)
number_in (r ∷ rs) rest zero c wide h l =
    ap (λ (x : List ℕ). get_or x (0 * row_width + c) 0) (append_assoc r (flat rs) rest)
    ∙ ap (λ (i : ℕ). get_or (r ++ (flat rs ++ rest)) i 0) (zero-add c)
    ∙ get_or-append r (flat rs ++ rest) 0 c (omega (arith, wide.0))
number_in (r ∷ rs) rest (suc k) c wide h l =
    let place : suc k * row_width + c ≡ length r + (k * row_width + c) = omega (arith, wide.0) in
    ap (λ (x : List ℕ). get_or x (suc k * row_width + c) 0) (append_assoc r (flat rs) rest)
    ∙ ap (λ (i : ℕ). get_or (r ++ (flat rs ++ rest)) i 0) place
    ∙ get_or-append-add r (flat rs ++ rest) (k * row_width + c) 0
    ∙ number_in rs rest k c wide.1 (omega arith) l

row_wide : (rs : List (List ℕ)) (k : ℕ) → Wide row_width rs → k < length rs → length (get_or rs k []) ≡ row_width
row_wide [] k wide h = absurd (omega arith)
row_wide (r ∷ rs) zero wide h = wide.0
row_wide (r ∷ rs) (suc k) wide h = row_wide rs k wide.1 (omega arith)

-- the row k alone, in its place, has the numbers that it has among all rows
pub row-alone : (table : List ℕ) (rs : List (List ℕ)) (k c : ℕ) → Wide row_width rs → length rs * row_width ≤ length table → k < length rs
    → c < row_width
    → get_or (put table (k * row_width) (get_or rs k [])) (k * row_width + c) 0 ≡ get_or (laid table rs) (k * row_width + c) 0
row-alone table rs k c wide room inside l =
    let at : ℕ = k * row_width in
    let r : List ℕ = get_or rs k [] in
    let w : length r ≡ row_width = row_wide rs k wide inside in
    let fits : at + length r ≤ length table = omega (arith, w) in
    let front : length (take at table) ≡ at = rw length-take (omega (arith, w)) in
    let parted : put table at r ≡ take at table ++ (r ++ drop (at + length r) table) =
    put-room table r at fits ∙ sets-eq r table at fits ∙ append_assoc (take at table) r (drop (at + length r) table) in
    ap (λ (x : List ℕ). get_or x (at + c) 0) parted
    ∙ ap (λ (i : ℕ). get_or (take at table ++ (r ++ drop (at + length r) table)) (i + c) 0) (sym front)
    ∙ get_or-append-add (take at table) (r ++ drop (at + length r) table) c 0
    ∙ get_or-append r (drop (at + length r) table) 0 c (omega (arith, w))
    ∙ sym (number_in rs (drop (length (flat rs)) table) k c wide inside l)

-- the same of the table that is left for the row k of an answer
pub one_row : (t d : List ℕ) (region speed k : ℕ) (table : List ℕ) (r : Result DecodedHeader Refusal) (table' : List ℕ) (h : DecodedHeader)
    → Answers t d region speed (One k) table r table' → r ≡ Ok h → h.rows ≡ length (rows_of (told_of t d region speed (length table)))
    → h.rows * row_width ≤ length table → k < h.rows → (c : ℕ) → c < row_width
    → get_or table' (k * row_width + c) 0 ≡ get_or (table_after table (told_of t d region speed (length table)) r) (k * row_width + c) 0
one_row t d region speed k table r table' h a is many room inside c l =
    let rs : List (List ℕ) = rows_of (told_of t d region speed (length table)) in
    let left : table' ≡ put table (k * row_width) (get_or rs k []) = rw is at a.rows in
    rw (left, is)
    (row-alone table rs k c (told_wide (definition t) d (length table / row_width) (key_of t region speed)) (rw (← many) room) (rw (← many) inside) l)

-- as many rows are answered as are told
pub rows_told : (t d : List ℕ) (region speed room : ℕ) (h : DecodedHeader) → Ok h ≡ decoded t d region speed room
    → h.rows ≡ length (rows_of (told_of t d region speed room))
rows_told t d region speed room h e = go (verdict t) (ltb 2048 (length d)) (ltb (length d) 2) (told_of t d region speed room) e
  where
    go : (v : Result (Unit {0}) Refusal) (long short : Bool) (x : Told)
        → Ok h ≡ judged v (cond long (Err (TooLong (length d))) (cond short (Err (TooShort (length d))) (of_told t (right d speed) x)))
        → h.rows ≡ length (rows_of x)
    go (Err y) long short x q = absurd (let z : ◌≡◌ {A = ℕ} 0 1 = cc in omega arith)
    go (Ok tt) true short x q = absurd (let z : ◌≡◌ {A = ℕ} 0 1 = cc in omega arith)
    go (Ok tt) false true x q = absurd (let z : ◌≡◌ {A = ℕ} 0 1 = cc in omega arith)
    go (Ok tt) false false (no_base k) q = absurd (let z : ◌≡◌ {A = ℕ} 0 1 = cc in omega arith)
    go (Ok tt) false false no_candidate q = absurd (let z : ◌≡◌ {A = ℕ} 0 1 = cc in omega arith)
    go (Ok tt) false false (more_rows n) q = absurd (let z : ◌≡◌ {A = ℕ} 0 1 = cc in omega arith)
    go (Ok tt) false false (header g) q = let z : h ≡ header_of t (right d speed) g = cc in rw z refl
