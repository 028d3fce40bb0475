-- How long the XML of a text can be. Assumes nothing.
use mathlib.Core.Path.{◌≡◌, refl}
use mathlib.Core.Bool.{Bool, true, false, cond, ◌&&◌}
use mathlib.Core.List.{List, [], ◌∷◌, ◌++◌}
use Prim.Native.Nat.{ℕ, zero, suc, ◌+◌, ◌-◌, ◌*◌, ◌/◌, ◌%◌, ◌≤◌}
use native.Mathlib.Omega.{arith}
use lib.Dec.{eqb, leb}
use lib.ListN.{length, get_or, drop, length-append}
use Rattle.text.specs.Text.{onto, split, lines, fields, field, value}
use Rattle.text.specs.Print.{Every}
use Rattle.numerals.specs.Numerals.{spelled, glyph}
use Rattle.xml_schema.specs.Schema.{elements, table, param, root, row_of, entries_of, parent_of, form_of, name_of, flag, further_flag, hex_number, is_dropped}
use Rattle.xml_spelling.specs.Spelling.{escape_of, escaped, hexed, flagged}
use Rattle.xml_attributes.specs.Attributes.{value_for, is_absent, label, attribute, written, field_after, digit_after, attributes}
use Rattle.append.specs.Append.{Room}
use Rattle.xml_elements.proofs.Laws.{level-low}
use Rattle.xml_elements.specs.Elements.{name_for, blanks, head, depth, innermost, up, shut, closings, level_in, stands_in, is_alone, ending}
use Rattle.xml_elements.specs.Elements.{first_field, rest_for, tag_for, leads_to, element, kind_for, body, opening, xml_of}

-- ---- pieces
abbrev Short : ℕ → List (List ℕ) → Type 0
Short n ps = Every (λ p. length p ≤ n) ps

short-more : (n m : ℕ) (ps : List (List ℕ)) → n ≤ m → Short n ps → Short m ps
short-more n m [] h s = s
short-more n m (p ∷ ps) h s = (omega (arith, s.0), short-more n m ps h s.1)

short-onto : (n x : ℕ) (ps : List (List ℕ)) → Short n ps → Short (suc n) (onto x ps)
short-onto n x [] s = (omega arith, s)
short-onto n x (p ∷ ps) s = (omega (arith, s.0), short-more n (suc n) ps (omega arith) s.1)

pub split-short : (b : ℕ) (l : List ℕ) → Short (length l) (split b l)
split-short b [] = (omega arith, tt)
split-short b (x ∷ xs) = go (eqb x b) (split-short b xs)
  where
    go : (t : Bool) → Short (length xs) (split b xs) → Short (suc (length xs)) (cond t ([] ∷ split b xs) (onto x (split b xs)))
    go true s = (omega arith, short-more (length xs) (suc (length xs)) (split b xs) (omega arith) s)
    go false s = short-onto (length xs) x (split b xs) s

pub split_few : (b : ℕ) (l : List ℕ) → length (split b l) ≤ length l + 1
split_few b [] = omega arith
split_few b (x ∷ xs) = go (eqb x b) (split_few b xs)
  where
    onto_few : (ps : List (List ℕ)) → length (onto x ps) ≤ length ps + 1
    onto_few [] = omega arith
    onto_few (p ∷ ps) = omega arith

    onto_same : (ps : List (List ℕ)) → 1 ≤ length ps → length (onto x ps) ≡ length ps
    onto_same [] h = absurd (omega arith)
    onto_same (p ∷ ps) h = refl

    go : (t : Bool) → length (split b xs) ≤ length xs + 1 → length (cond t ([] ∷ split b xs) (onto x (split b xs))) ≤ suc (length xs) + 1
    go true h = omega arith
    go false h = omega (arith, onto_few (split b xs))

pub short_at : (n : ℕ) (ps : List (List ℕ)) (k : ℕ) → Short n ps → length (get_or ps k []) ≤ n
short_at n [] k s = omega arith
short_at n (p ∷ ps) zero s = s.0
short_at n (p ∷ ps) (suc k) s = short_at n ps k s.1

short-drop : (n : ℕ) (ps : List (List ℕ)) → Short n ps → Short n (drop 1 ps)
short-drop n [] s = s
short-drop n (p ∷ ps) s = s.1

few_drop : (ps : List (List ℕ)) → length (drop 1 ps) ≤ length ps
few_drop [] = omega arith
few_drop (p ∷ ps) = omega arith

-- ---- values
escape-low : (x : ℕ) → length (escape_of x) ≤ 6
escape-low x = go (eqb x 0x26) (eqb x 0x3c) (eqb x 0x3e) (eqb x 0x22) (eqb x 0x27)
  where
    go : (a b c d e : Bool) → length
        (cond a (0x26 ∷ 0x61 ∷ 0x6d ∷ 0x70 ∷ 0x3b ∷ [])
        (cond b (0x26 ∷ 0x6c ∷ 0x74 ∷ 0x3b ∷ [])
        (cond c (0x26 ∷ 0x67 ∷ 0x74 ∷ 0x3b ∷ [])
        (cond d (0x26 ∷ 0x71 ∷ 0x75 ∷ 0x6f ∷ 0x74 ∷ 0x3b ∷ [])
        (cond e (0x26 ∷ 0x61 ∷ 0x70 ∷ 0x6f ∷ 0x73 ∷ 0x3b ∷ []) (x ∷ [])))))) ≤ 6
    go true b c d e = omega arith
    go false true c d e = omega arith
    go false false true d e = omega arith
    go false false false true e = omega arith
    go false false false false true = omega arith
    go false false false false false = omega arith

escaped-low : (s : List ℕ) → length (escaped s) ≤ 6 * length s
unfolding escaped
escaped-low [] = omega arith
escaped-low (x ∷ xs) = omega (arith, length-append (escape_of x) (escaped xs), escape-low x, escaped-low xs)

spelled-low : (base ten most least n : ℕ) → length (spelled base ten most least n) ≤ most
unfolding spelled
spelled-low base ten zero least n = omega arith
spelled-low base ten (suc most) least n =
    go (eqb n 0 && eqb least 0) (spelled base ten most (least - 1) (n / base)) (spelled-low base ten most (least - 1) (n / base))
  where
    go : (t : Bool) (rest : List ℕ) → length rest ≤ most → length (cond t [] (rest ++ (glyph ten (n % base) ∷ []))) ≤ suc most
    go true rest h = omega arith
    go false rest h = omega (arith, length-append rest (glyph ten (n % base) ∷ []))

flagged-low : (x : ℕ) → length (flagged x) ≤ 5
flagged-low x = go (eqb x 0x31)
  where
    go : (t : Bool) → length {A = ℕ} (cond t (0x74 ∷ 0x72 ∷ 0x75 ∷ 0x65 ∷ []) (0x66 ∷ 0x61 ∷ 0x6c ∷ 0x73 ∷ 0x65 ∷ [])) ≤ 5
    go true = omega arith
    go false = omega arith

hexed-low : (f : List ℕ) → length (hexed f) ≤ 22
hexed-low f = omega (arith, spelled-low 16 65 20 1 (value 65535 f))

module _ (fs : List (List ℕ)) (short : Short 60000 fs) where
  field-low : (k : ℕ) → length (escaped (field k fs)) ≤ 360000
  field-low k = omega (arith, escaped-low (field k fs), short_at 60000 fs k short)

  value_low : (f k j : ℕ) → length (value_for f fs k j) ≤ 360000
  value_low f k j = go (is_dropped f) (eqb f flag) (eqb f further_flag) (eqb f hex_number)
    where
      go : (a b c d : Bool) → length
          (cond a (escaped (field (f - 0x30) fs))
          (cond b (flagged (get_or (field k fs) 0 0))
          (cond c (flagged (get_or (field (k - 1) fs) j 0)) (cond d (hexed (field k fs)) (escaped (field k fs)))))) ≤ 360000
      go true b c d = field-low (f - 0x30)
      go false true c d = omega (arith, flagged-low (get_or (field k fs) 0 0))
      go false false true d = omega (arith, flagged-low (get_or (field (k - 1) fs) j 0))
      go false false false true = omega (arith, hexed-low (field k fs))
      go false false false false = field-low k

  -- ---- attributes
  label-low : (n : List ℕ) → length (label n) ≡ length n + 3
  label-low n = omega (arith, length-append n (0x3d ∷ 0x22 ∷ []))

  attribute-low : (n v : List ℕ) → length (attribute n v) ≡ length n + length v + 4
  attribute-low n v = omega (arith, length-append (label n) (v ++ (0x22 ∷ [])), length-append v (0x22 ∷ []), label-low n)

  name-low : (e : List ℕ) → length (name_of e) ≤ length e
  name-low [] = omega arith
  name-low (x ∷ xs) = omega arith

  written_low : (e : List ℕ) (k j : ℕ) → length e ≤ 300 → length (written e fs k j) ≤ 360400
  written_low e k j h = go (is_absent (form_of e) fs k)
    where
      go : (t : Bool) → length (cond t [] (attribute (name_of e) (value_for (form_of e) fs k j))) ≤ 360400
      go true = omega arith
      go false = omega (arith, attribute-low (name_of e) (value_for (form_of e) fs k j), name-low e, value_low (form_of e) k j)

  attributes-low : (es : List (List ℕ)) (k j : ℕ) → Short 300 es → length (attributes es fs k j) ≤ 360400 * length es
  unfolding attributes
  attributes-low [] k j s = omega arith
  attributes-low (e ∷ es) k j s =
      omega (
        arith,
        length-append (written e fs k j) (attributes es fs (field_after (form_of e) k) (digit_after (form_of e) j)),
        written_low e k j s.0,
        attributes-low es (field_after (form_of e) k) (digit_after (form_of e) j) s.1,
      )

row_low : (k : ℕ) → length (get_or (lines table) k []) ≤ 274
unfolding table
row_low k = short_at 274 (lines table) k (split-short 10 table)

entries-short : (k : ℕ) → Short 300 (entries_of k)
entries-short k =
    short-drop 300 (row_of k)
    (short-more (length (get_or (lines table) k [])) 300 (row_of k) (omega (arith, row_low k)) (split-short 9 (get_or (lines table) k [])))

entries_few : (k : ℕ) → length (entries_of k) ≤ 275
entries_few k = omega (arith, few_drop (row_of k), split_few 9 (get_or (lines table) k []), row_low k)

-- ---- tags
names-low : (k : ℕ) → length (name_for k) ≤ 128
unfolding elements
names-low k = short_at 128 (split 0x20 elements) k (split-short 0x20 elements)

blanks-low : (n : ℕ) → length (blanks n) ≡ 2 * n
unfolding blanks
blanks-low zero = omega arith
blanks-low (suc n) = omega (arith, blanks-low n)

head-low : (n : ℕ) (mark : List ℕ) (k : ℕ) → n ≤ 9 → length mark ≤ 2 → length (head n mark k) ≤ 150
head-low n mark k h m = omega (arith, length-append (blanks n) (mark ++ name_for k), length-append mark (name_for k), blanks-low n, names-low k)

depth_low : (d : ℕ) → depth d ≤ 9
depth_low d = go (leb 16 d) (eqb d 0)
  where
    go : (a b : Bool) → cond a (2 + d % 8) (cond b 0 1) ≤ 9
    go true b = omega arith
    go false true = omega arith
    go false false = omega arith

shut-low : (d : ℕ) → length (shut d) ≤ 152
shut-low d =
    omega (
      arith,
      length-append (head (depth d) (0x3c ∷ 0x2f ∷ []) (innermost d)) (0x3e ∷ 0x0a ∷ []),
      head-low (depth d) (0x3c ∷ 0x2f ∷ []) (innermost d) (depth_low d) (omega arith),
    )

closings-low : (n d : ℕ) → length (closings n d) ≤ 152 * n
unfolding closings
closings-low zero d = omega arith
closings-low (suc n) d = omega (arith, length-append (shut d) (closings n (up d)), shut-low d, closings-low n (up d))

ending-low : (k : ℕ) → length (ending k) ≤ 3
ending-low k = go (is_alone k)
  where
    go : (t : Bool) → length {A = ℕ} (cond t (0x2f ∷ 0x3e ∷ 0x0a ∷ []) (0x3e ∷ 0x0a ∷ [])) ≤ 3
    go true = omega arith
    go false = omega arith

stands-low : (k level : ℕ) → level ≤ 7 → stands_in k level ≤ 8
stands-low k level h = go (eqb k param) (eqb (parent_of k) root)
  where
    go : (a b : Bool) → cond a (1 + level) (cond b 0 1) ≤ 8
    go true b = omega arith
    go false true = omega arith
    go false false = omega arith

tag_low : (k level : ℕ) (fs : List (List ℕ)) → Short 60000 fs → level ≤ 7 → length (tag_for k level fs) ≤ 99200000
tag_low k level fs s h =
    omega (
      arith,
      length-append (head (suc (stands_in k level)) (0x3c ∷ []) k) (rest_for k fs),
      length-append (attributes (entries_of k) fs (first_field k) 1) (ending k),
      head-low (suc (stands_in k level)) (0x3c ∷ []) k (omega (arith, stands-low k level h)) (omega arith),
      ending-low k,
      attributes-low fs s (entries_of k) (first_field k) 1 (entries-short k),
      entries_few k,
    )

-- ---- lines
level_in_low : (k : ℕ) (fs : List (List ℕ)) → level_in k fs ≤ 7
level_in_low k fs = go (eqb k param)
  where
    go : (t : Bool) → cond t (value 7 (field 1 fs)) 0 ≤ 7
    go true = level-low (field 1 fs) (value 7 (field 1 fs)) refl
    go false = omega arith

element-low : (d k : ℕ) (fs : List (List ℕ)) → Short 60000 fs → length (element d k fs) ≤ 99300000
element-low d k fs s =
    omega (
      arith,
      length-append (closings (depth d - stands_in k (level_in k fs)) d) (tag_for k (level_in k fs) fs),
      closings-low (depth d - stands_in k (level_in k fs)) d,
      depth_low d,
      tag_low k (level_in k fs) fs s (level_in_low k fs),
    )

body-low : (d : ℕ) (ls : List (List ℕ)) → Short 60000 ls → length (body d ls) ≤ 99300000 * length ls + 1600
unfolding body
body-low d [] s = omega (arith, closings-low (suc (depth d)) d, depth_low d)
body-low d (l ∷ []) s = omega (arith, closings-low (suc (depth d)) d, depth_low d)
body-low d (l ∷ m ∷ ms) s =
    omega (
      arith,
      length-append (element d (kind_for (fields l)) (fields l)) (body (leads_to d (kind_for (fields l)) (level_in (kind_for (fields l)) (fields l))) (m ∷ ms)),
      element-low d (kind_for (fields l)) (fields l) (short-more (length l) 60000 (fields l) s.0 (split-short 9 l)),
      body-low (leads_to d (kind_for (fields l)) (level_in (kind_for (fields l)) (fields l))) (m ∷ ms) s.1,
    )

opening-low : length opening ≤ 60
unfolding opening
opening-low = omega arith

-- ---- a text that is accepted is short enough for its XML to be counted
pub xml_room : (t : List ℕ) → length t ≤ 60000 → Room 0 (xml_of t)
xml_room t h =
    omega (
      arith,
      length-append opening (body 0 (lines t)),
      opening-low,
      split_few 10 t,
      body-low 0 (lines t) (short-more (length t) 60000 (lines t) h (split-short 10 t)),
    )
