-- O5 (docs/RULES.md), the order of a release: H blocks sorted by name, as an instance of a rearrangement.
use Rattle.std.specs.Prelude.{ℕ, ◌≡◌, Bool, true, false, cond, ◌&&◌, ◌||◌, List, [], ◌∷◌, eqb, ltb}
use Rattle.text.specs.Text.{field, fields}
use Rattle.reorder.specs.Blocks.{Section, is_block, blocks, lines_of, Line, written, says_of, sections_of}

-- ---- lists

-- x among elements that are sorted: before the first that it may stand before
abbrev pub insert_by : {X : Type 0} → (X → X → Bool) → X → List X → List X
insert_by before x [] = x ∷ []
insert_by before x (y ∷ ys) = cond (before x y) (x ∷ y ∷ ys) (y ∷ insert_by before x ys)

-- sorted; those of which each may stand before the other stay as they stood
abbrev pub sort_by : {X : Type 0} → (X → X → Bool) → List X → List X
sort_by before [] = []
sort_by before (x ∷ xs) = insert_by before x (sort_by before xs)

-- each may stand before the next
abbrev pub Sorted : {X : Type 0} → (X → X → Bool) → List X → Type 0
Sorted before [] = Unit {0}
Sorted before (x ∷ []) = Unit {0}
Sorted before (x ∷ y ∷ ys) = (before x y ≡ true) × Sorted before (y ∷ ys)

-- xs with the ys, one after the other, in the places of those that meet the test
abbrev pub placed : {X : Type 0} → (X → Bool) → List X → List X → List X
placed test ys [] = []
placed test [] (x ∷ xs) = x ∷ placed test [] xs
placed test (y ∷ ys) (x ∷ xs) = cond (test x) (y ∷ placed test ys xs) (x ∷ placed test (y ∷ ys) xs)

-- ---- blocks by name

-- the name of an H line is its fifth field
abbrev pub name_of : Section Line → List ℕ
name_of s = field 4 (fields s.owner)

-- byte by byte, a front before the whole
abbrev pub up_to : List ℕ → List ℕ → Bool
up_to [] ys = true
up_to (x ∷ xs) [] = false
up_to (x ∷ xs) (y ∷ ys) = ltb x y || (eqb x y && up_to xs ys)

abbrev pub name_up_to : Section Line → Section Line → Bool
name_up_to r s = up_to (name_of r) (name_of s)

-- sections with their blocks sorted by name, among the places where blocks stood
abbrev pub by_name : List (Section Line) → List (Section Line)
by_name ss = placed (is_block says_of) (sort_by name_up_to (blocks says_of ss)) ss

-- a text with its H blocks sorted by name
abbrev pub sorted_text : List ℕ → List ℕ
sorted_text t = written (lines_of says_of (by_name (sections_of t)))
