-- CV3 (docs/RULES.md): the rows that are counted are those of the answer, one after the other. Assumes nothing.
use mathlib.Core.Path.{◌≡◌, refl, sym, ap, ◌∙◌}
use mathlib.Core.List.{List, [], ◌∷◌, ◌++◌, append_assoc}
use Prim.Native.Nat.{ℕ, suc, ◌+◌, ◌*◌, ◌<◌}
use native.Mathlib.Omega.{arith}
use lib.ListN.{length, get_or, drop, length-append, get_or-append}
use lib.Seq.{get_or-append-add}
use Rattle.rows.specs.Rows.{flat, laid}
use Rattle.rows.specs.Parts.{Wide}
use Rattle.header_rules.specs.Table.{row_width, cell, number_column, symbol_column}
use Rattle.coverage.specs.Coverage.{row_places, rows_from}

-- the places of rows, each by the number of its P line and its symbol
abbrev pub places_of : List ℕ → List (List ℕ) → List ℕ
places_of sets [] = []
places_of sets (r ∷ rs) = row_places sets (get_or r number_column 0) (get_or r symbol_column 0) ++ places_of sets rs

-- a number of the row behind k others
cell_is : (front r rest : List ℕ) (k c : ℕ) → length front ≡ k * row_width → c < length r → cell (front ++ (r ++ rest)) k c ≡ get_or r c 0
cell_is front r rest k c is h =
    let at : k * row_width + c ≡ length front + c = omega arith in
    ap (λ (n : ℕ). get_or (front ++ (r ++ rest)) n 0) at ∙ get_or-append-add front (r ++ rest) c 0 ∙ get_or-append r rest 0 c h

rows_behind : (sets : List ℕ) (rs : List (List ℕ)) (front rest : List ℕ) (k : ℕ) → Wide row_width rs → length front ≡ k * row_width
    → rows_from sets (front ++ (flat rs ++ rest)) k (length rs) ≡ places_of sets rs
rows_behind sets [] front rest k wide is = refl
rows_behind sets (r ∷ rs) front rest k wide is =
    let tail : List ℕ = flat rs ++ rest in
    let whole : front ++ (flat (r ∷ rs) ++ rest) ≡ front ++ (r ++ tail) = ap (λ (l : List ℕ). front ++ l) (append_assoc r (flat rs) rest) in
    let parted : front ++ (r ++ tail) ≡ (front ++ r) ++ tail = sym (append_assoc front r tail) in
    let long : length (front ++ r) ≡ (k + 1) * row_width = length-append front r ∙ omega (arith, is, wide.0) in
    let first : cell (front ++ (r ++ tail)) k number_column ≡ get_or r number_column 0 = cell_is front r tail k number_column is (omega (arith, wide.0)) in
    let last : cell (front ++ (r ++ tail)) k symbol_column ≡ get_or r symbol_column 0 = cell_is front r tail k symbol_column is (omega (arith, wide.0)) in
    let others : rows_from sets (front ++ (r ++ tail)) (k + 1) (length rs) ≡ places_of sets rs =
    ap (λ (l : List ℕ). rows_from sets l (k + 1) (length rs)) parted ∙ rows_behind sets rs (front ++ r) rest (k + 1) wide.1 long in
    ap (λ (l : List ℕ). rows_from sets l k (suc (length rs))) whole
    ∙ ap (λ (n : ℕ). row_places sets n (cell (front ++ (r ++ tail)) k symbol_column) ++ rows_from sets (front ++ (r ++ tail)) (k + 1) (length rs)) first
    ∙ ap (λ (n : ℕ). row_places sets (get_or r number_column 0) n ++ rows_from sets (front ++ (r ++ tail)) (k + 1) (length rs)) last
    ∙ ap (λ (l : List ℕ). row_places sets (get_or r number_column 0) (get_or r symbol_column 0) ++ l) others

-- CV3: of a table over which rows are laid
pub rows-placed : (sets : List ℕ) (rs : List (List ℕ)) (table : List ℕ) → Wide row_width rs
    → rows_from sets (laid table rs) 0 (length rs) ≡ places_of sets rs
rows-placed sets rs table wide = rows_behind sets rs [] (drop (length (flat rs)) table) 0 wide (omega arith)
