-- A listing that is written: it is of the form, and it is the one that does not differ. Assumes nothing.
use mathlib.Core.Path.{◌≡◌, refl, sym, ap, ◌∙◌}
use mathlib.Core.Bool.{Bool, true, false, cond}
use mathlib.Core.List.{List, [], ◌∷◌, ◌++◌, map, append_assoc}
use Prim.Native.Nat.{ℕ, suc, ◌+◌, ◌≤◌, ◌<◌}
use native.Mathlib.Omega.{arith}
use lib.ListN.{length, take, drop, length-append, take-append-drop}
use lib.Seq.{take_at, drop_at, sets, length-sets}
use borrow.Author.Tests.{eq-eqb}
use Rattle.rows.specs.Rows.{flat}
use Rattle.rows.specs.Parts.{Wide}
use Rattle.rows.proofs.Laws.{sets-append, put-room}
use Rattle.text.specs.Text.{lines, fields, without, same, worth, up_to}
use Rattle.text.specs.Print.{Every, Clean, shown, joined}
use Rattle.text.proofs.Judging.{split_some}
use Rattle.text.proofs.Printing.{shown-up_to, shown-worth, clean_shown, split-joined, without-joined, joined-split, split-long, split-without, same_is}
use Rattle.numerals.specs.Numbers.{most}
use Rattle.listing_text.specs.Listing.{row_width, line_of, text_of, closed, listing_of, numbers_in, names, last_of, form_of, begins, differs}
use Rattle.listing_text.specs.Steps.{Small, rows_in, puts}
use Rattle.listing_text.specs.declared.form.Named.{Named}
use Rattle.std.specs.Prelude.{Some, None, Result, Ok, Err}
use Rattle.listing_text.proofs.Forming.{form_line, end_not}
use Rattle.listing_text.proofs.Differing.{line_some}

-- ---- the rows that are read of a table in which rows are laid
pub rows-laid : (rs : List (List ℕ)) (rest : List ℕ) → Wide row_width rs → rows_in (length rs) (flat rs ++ rest) ≡ rs
rows-laid [] rest w = refl
rows-laid (r ∷ rs) rest w =
    let e : flat (r ∷ rs) ++ rest ≡ r ++ (flat rs ++ rest) = append_assoc r (flat rs) rest in
    rw (e, take_at r (flat rs ++ rest) row_width w.0, drop_at r (flat rs ++ rest) row_width w.0, rows-laid rs rest w.1) refl

-- ---- the bytes of lines that are written one after the other
pub puts-all : (b : List ℕ) (at : ℕ) (rs : List (List ℕ)) → at + length (text_of rs) ≤ length b → puts b at rs ≡ sets b at (text_of rs)
puts-all b at [] h = refl
puts-all b at (r ∷ rs) h =
    let n : length (text_of (r ∷ rs)) ≡ length (line_of r) + length (text_of rs) = length-append (line_of r) (text_of rs) in
    rw (put-room b (line_of r) at (omega arith), sets-append b at (line_of r) (text_of rs))
    (puts-all (sets b at (line_of r)) (at + length (line_of r)) rs (rw length-sets (omega arith)))

-- ---- the lines of a listing
joined-behind : (p : List ℕ) (ps : List (List ℕ)) → 1 ≤ length ps → joined 10 (p ∷ ps) ≡ p ++ 10 ∷ joined 10 ps
joined-behind p [] h = absurd (omega arith)
joined-behind p (q ∷ ps) h = refl

lines-behind : (p rest : List ℕ) → without 10 p ≡ true → lines (p ++ 10 ∷ rest) ≡ p ∷ lines rest
lines-behind p rest e =
    ap (λ (z : List ℕ). lines (p ++ 10 ∷ z)) (sym (joined-split 10 rest))
    ∙ ap lines (sym (joined-behind p (lines rest) (split-long 10 rest)))
    ∙ split-joined 10 (p ∷ lines rest) (omega arith) (e, split-without 10 rest)

-- a row's fields
abbrev cells : List ℕ → List (List ℕ)
cells r = map shown r

cells_clean : (r : List ℕ) → Every Clean (cells r)
cells_clean [] = tt
cells_clean (x ∷ xs) = (clean_shown x, cells_clean xs)

no_tabs : (ps : List (List ℕ)) → Every Clean ps → Every (λ p. without 9 p ≡ true) ps
no_tabs [] e = tt
no_tabs (p ∷ ps) e = (e.0.tab, no_tabs ps e.1)

no-ends : (ps : List (List ℕ)) → Every Clean ps → Every (λ p. without 10 p ≡ true) ps
no-ends [] e = tt
no-ends (p ∷ ps) e = (e.0.end, no-ends ps e.1)

line_joined : (r : List ℕ) → 1 ≤ length r → line_of r ≡ joined 9 (cells r) ++ 10 ∷ []
line_joined [] h = absurd (omega arith)
line_joined (x ∷ []) h = refl
line_joined (x ∷ y ∷ ys) h =
    rw (line_joined (y ∷ ys) (omega arith)) (sym (append_assoc (shown x) (9 ∷ joined 9 (cells (y ∷ ys))) (10 ∷ [])))

line_lines : (r rest : List ℕ) → 1 ≤ length r → lines (line_of r ++ rest) ≡ joined 9 (cells r) ∷ lines rest
line_lines r rest h =
    ap (λ (z : List ℕ). lines (z ++ rest)) (line_joined r h) ∙ ap lines (append_assoc (joined 9 (cells r)) (10 ∷ []) rest)
    ∙ lines-behind (joined 9 (cells r)) rest (without-joined 10 9 (cells r) (λ e. omega arith) (no-ends (cells r) (cells_clean r)))

text_some : (rows : List (List ℕ)) (m : ℕ) → 0 < length (text_of (closed rows m))
text_some [] m = omega (arith, length-append (line_of (m ∷ [])) [], line_some (m ∷ []) (omega arith))
text_some (r ∷ rs) m = omega (arith, length-append (line_of r) (text_of (closed rs m)), text_some rs m)

-- ---- its form
last-form : (k m : ℕ) → form_of k (lines (text_of (closed [] m))) ≡ last_of k (shown m)
last-form k m = ap (form_of k) (line_lines (m ∷ []) [] (omega arith))

row-form : (k m : ℕ) (r : List ℕ) (rs : List (List ℕ)) → 1 ≤ length r
    → form_of k (lines (text_of (closed (r ∷ rs) m)))
    ≡ cond (numbers_in row_width (fields (joined 9 (cells r)))) (form_of (k + 1) (lines (text_of (closed rs m)))) (Err k)
row-form k m r rs h =
    let rest : List ℕ = text_of (closed rs m) in
    ap (form_of k) (line_lines r (text_of (closed rs m)) h)
    ∙ form_line k (joined 9 (cells r)) (lines (text_of (closed rs m))) (split_some 10 (text_of (closed rs m)))
    ∙ rw (end_not (text_of (closed rs m)) (text_some rs m)) refl

-- it names the number that was written
abbrev number_in : Result Named ℕ → ℕ
number_in (Ok n) = n.number
number_in (Err k) = 0

pub names-written : (k m n last : ℕ) (rows : List (List ℕ)) → Wide row_width rows → form_of k (lines (listing_of rows m)) ≡ names n last → n ≡ m
names-written k m n last [] w e = go (up_to most (shown m)) (sym (last-form k m) ∙ e)
  where
    go : (b : Bool) → cond b (names (worth 0 (shown m)) k) (Err k) ≡ names n last → n ≡ m
    go true q = let z : worth 0 (shown m) ≡ n = ap number_in q in sym z ∙ shown-worth m
    go false q = absurd (let z : ◌≡◌ {A = ℕ} 0 1 = cc in omega arith)
names-written k m n last (r ∷ rs) w e =
    go (numbers_in row_width (fields (joined 9 (cells r)))) (sym (row-form k m r rs (omega (arith, w.0))) ∙ e) (names-written (k + 1) m n last rs w.1)
  where
    go : (b : Bool) → cond b (form_of (k + 1) (lines (text_of (closed rs m)))) (Err k) ≡ names n last
        → (form_of (k + 1) (lines (text_of (closed rs m))) ≡ names n last → n ≡ m) → n ≡ m
    go true q ih = ih q
    go false q ih = absurd (let z : ◌≡◌ {A = ℕ} 0 1 = cc in omega arith)

numbers-shown : (r : List ℕ) → Small r → numbers_in (length r) (cells r) ≡ true
numbers-shown [] s = refl
numbers-shown (x ∷ xs) s = rw (shown-up_to most x s.0) (numbers-shown xs s.1)

-- and is of the form, where the numbers are small enough
pub form-written : (k m : ℕ) (rows : List (List ℕ)) → Wide row_width rows → Every Small (closed rows m)
    → form_of k (lines (listing_of rows m)) ≡ names m (k + length rows)
form-written k m [] w s =
    let e : k + 0 ≡ k = omega arith in
    last-form k m ∙ rw (shown-up_to most m s.0.0, shown-worth m, e) refl
form-written k m (r ∷ rs) w s =
    let some : 1 ≤ length r = omega (arith, w.0) in
    let f : fields (joined 9 (cells r)) ≡ cells r = split-joined 9 (cells r) (cells_some r some) (no_tabs (cells r) (cells_clean r)) in
    let g : numbers_in row_width (fields (joined 9 (cells r))) ≡ true =
    ap (numbers_in row_width) f ∙ ap (λ (n : ℕ). numbers_in n (cells r)) (sym w.0) ∙ numbers-shown r s.0 in
    let e : k + 1 + length rs ≡ k + suc (length rs) = omega arith in
    row-form k m r rs some ∙ rw g (form-written (k + 1) m rs w.1 s.1) ∙ ap (names m) e
  where
    cells_some : (r : List ℕ) → 1 ≤ length r → 1 ≤ length (cells r)
    cells_some [] h = absurd (omega arith)
    cells_some (x ∷ xs) h = omega arith

-- ---- the listing that does not differ
begins_front : (l rest : List ℕ) → begins l (l ++ rest) ≡ true
begins_front l rest = rw (take_at l rest (length l) refl) (same_refl l)
  where
    same_refl : (l : List ℕ) → same l l ≡ true
    same_refl [] = refl
    same_refl (x ∷ xs) = rw (eq-eqb x x refl) (same_refl xs)

pub differs_none : (n : ℕ) (rs : List (List ℕ)) → differs n rs (text_of rs) ≡ None
differs_none n [] = refl
differs_none n (r ∷ rs) =
    rw (begins_front (line_of r) (text_of rs), drop_at (line_of r) (text_of rs) (length (line_of r)) refl) (differs_none (n + 1) rs)

pub differs-same : (n : ℕ) (rs : List (List ℕ)) (s : List ℕ) → differs n rs s ≡ None → s ≡ text_of rs
differs-same n [] s e = go (same s []) refl e
  where
    go : (b : Bool) → same s [] ≡ b → cond b None (Some n) ≡ None → s ≡ []
    go true q z = same_is s [] q
    go false q z = absurd (let u : ◌≡◌ {A = ℕ} 0 1 = cc in omega arith)
differs-same n (r ∷ rs) s e = go (begins (line_of r) s) refl e (differs-same (n + 1) rs (drop (length (line_of r)) s))
  where
    go : (b : Bool) → begins (line_of r) s ≡ b → cond b (differs (n + 1) rs (drop (length (line_of r)) s)) (Some n) ≡ None
        → (differs (n + 1) rs (drop (length (line_of r)) s) ≡ None → drop (length (line_of r)) s ≡ text_of rs) → s ≡ line_of r ++ text_of rs
    go true q z ih =
        let f : take (length (line_of r)) s ≡ line_of r = same_is (take (length (line_of r)) s) (line_of r) q in
        sym (take-append-drop (length (line_of r)) s) ∙ ap (λ (l : List ℕ). l ++ drop (length (line_of r)) s) f
        ∙ ap (λ (l : List ℕ). line_of r ++ l) (ih z)
    go false q z ih = absurd (let u : ◌≡◌ {A = ℕ} 0 1 = cc in omega arith)
