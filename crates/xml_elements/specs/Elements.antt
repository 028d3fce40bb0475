-- X13 (docs/RULES.md): the XML that is written for the lines of a text: a tag a line, two spaces for each element around it, an element ended when
-- the next line stands further out.
use Rattle.std.specs.Prelude.{ℕ, zero, suc, ◌+◌, ◌-◌, ◌%◌, Bool, cond, ◌||◌, List, [], ◌∷◌, ◌++◌, leb, eqb, get_or}
use Rattle.text.specs.Text.{split, lines, fields, field, value}
use Rattle.text.specs.Scan.{cut}
use Rattle.text.specs.Place.{kind_of}
use Rattle.frame_kept.specs.Letters.{letter_f, letter_b, letter_h, letter_p, letter_v, letter_d, letter_e}
use Rattle.xml_schema.specs.Schema.{elements, root, param, no_letter, entries_of, parent_of}
use Rattle.xml_attributes.specs.Attributes.{attributes}

-- the name of element k
abbrev pub name_for : ℕ → List ℕ
name_for k = get_or (split 0x20 elements) k []

-- X13: two spaces for each element around it
unfoldable pub blanks : ℕ → List ℕ
blanks zero = []
blanks (suc n) = 0x20 ∷ 0x20 ∷ blanks n

-- X13: what a tag begins with: its spaces, `<` or `</`, the name of element k
abbrev pub head : ℕ → List ℕ → ℕ → List ℕ
head n mark k = blanks n ++ (mark ++ name_for k)

-- ---- ends. A place is that of X7: the number of the element that we are in; 16 to 23 in a Param of a BaseHeader, by its level, and 24 to 31 in one
-- of a Header

-- how many elements are around what stands in the root at the place d
abbrev pub depth : ℕ → ℕ
depth d = cond (leb 16 d) (2 + d % 8) (cond (eqb d 0) 0 1)

-- the element that we are in
abbrev pub innermost : ℕ → ℕ
innermost d = cond (leb 16 d) param d

-- the place behind its end
abbrev pub up : ℕ → ℕ
up d = cond (eqb d 16) 2 (cond (eqb d 24) 3 (cond (leb 16 d) (d - 1) 0))

-- X13: its end, on a line of its own
abbrev pub shut : ℕ → List ℕ
shut d = head (depth d) (0x3c ∷ 0x2f ∷ []) (innermost d) ++ (0x3e ∷ 0x0a ∷ [])

-- X13: the ends of so many elements, from the place d on
unfoldable pub closings : ℕ → ℕ → List ℕ
closings zero d = []
closings (suc n) d = shut d ++ closings n (up d)

-- ---- the start of an element

-- X13: the element of a line, by its letter: `FBHPVDE` are 1 to 7
abbrev pub element_for : ℕ → ℕ
element_for letter = cut letter (no_letter ∷ letter_f ∷ letter_b ∷ letter_h ∷ letter_p ∷ letter_v ∷ letter_d ∷ letter_e ∷ [])

-- the level that a P says; 0 for any other line
abbrev pub level_in : ℕ → List (List ℕ) → ℕ
level_in k fs = cond (eqb k param) (value 7 (field 1 fs)) 0

-- how many elements are around it in the root
abbrev pub stands_in : ℕ → ℕ → ℕ
stands_in k level = cond (eqb k param) (1 + level) (cond (eqb (parent_of k) root) 0 1)

-- X13: a RadioFrequency, a Validation and a Define end in their tag
abbrev pub is_alone : ℕ → Bool
is_alone k = eqb k 1 || (eqb k 5 || eqb k 7)

abbrev pub ending : ℕ → List ℕ
ending k = cond (is_alone k) (0x2f ∷ 0x3e ∷ 0x0a ∷ []) (0x3e ∷ 0x0a ∷ [])

-- the first field that an attribute says
abbrev pub first_field : ℕ → ℕ
first_field k = cond (eqb k param) 2 1

-- X13: what stands behind the name in its tag
abbrev pub rest_for : ℕ → List (List ℕ) → List ℕ
rest_for k fs = attributes (entries_of k) fs (first_field k) 1 ++ ending k

-- X13: the tag of element k for a line
abbrev pub tag_for : ℕ → ℕ → List (List ℕ) → List ℕ
tag_for k level fs = head (suc (stands_in k level)) (0x3c ∷ []) k ++ rest_for k fs

-- where it leads from the place d
abbrev pub leads_to : ℕ → ℕ → ℕ → ℕ
leads_to d k level =
    cond (eqb k param) (cond (eqb d 3 || leb 24 d) (24 + level) (16 + level))
    (cond (is_alone k) (parent_of k) k)

-- ---- the lines of a text

-- X13: a line, from the place d: the ends of the elements that it does not stand in, and its tag
abbrev pub element : ℕ → ℕ → List (List ℕ) → List ℕ
element d k fs = closings (depth d - stands_in k (level_in k fs)) d ++ tag_for k (level_in k fs) fs

abbrev pub kind_for : List (List ℕ) → ℕ
kind_for fs = element_for (kind_of fs)

-- X13: lines, and the ends of all elements that are left. What stands behind the last 0x0A is no line
unfoldable pub body : ℕ → List (List ℕ) → List ℕ
body d [] = closings (suc (depth d)) d
body d (l ∷ []) = closings (suc (depth d)) d
body d (l ∷ m ∷ ms) =
    element d (kind_for (fields l)) (fields l) ++ body (leads_to d (kind_for (fields l)) (level_in (kind_for (fields l)) (fields l))) (m ∷ ms)

-- X13: `<?xml version="1.0" encoding="utf-8"?>` and `<FrameDefinition>`, each on a line
unfoldable pub opening : List ℕ
opening = 0x3c ∷ 0x3f ∷ 0x78 ∷ 0x6d ∷ 0x6c ∷ 0x20 ∷ 0x76 ∷ 0x65 ∷ 0x72 ∷ 0x73 ∷ 0x69 ∷ 0x6f ∷ 0x6e ∷ 0x3d ∷ 0x22 ∷ 0x31
    ∷ 0x2e ∷ 0x30 ∷ 0x22 ∷ 0x20 ∷ 0x65
    ∷ 0x6e ∷ 0x63 ∷ 0x6f ∷ 0x64 ∷ 0x69 ∷ 0x6e ∷ 0x67 ∷ 0x3d ∷ 0x22 ∷ 0x75 ∷ 0x74 ∷ 0x66 ∷ 0x2d ∷ 0x38 ∷ 0x22 ∷ 0x3f
    ∷ 0x3e ∷ 0x0a ∷ 0x3c ∷ 0x46 ∷ 0x72
    ∷ 0x61 ∷ 0x6d ∷ 0x65 ∷ 0x44 ∷ 0x65 ∷ 0x66 ∷ 0x69 ∷ 0x6e ∷ 0x69 ∷ 0x74 ∷ 0x69 ∷ 0x6f ∷ 0x6e ∷ 0x3e ∷ 0x0a ∷ []

-- X13: the XML of a text
abbrev pub xml_of : List ℕ → List ℕ
xml_of t = opening ++ body root (lines t)
