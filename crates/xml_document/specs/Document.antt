-- X1, X4 and X7 to X10 (docs/RULES.md): a document, its faults, and the text that it says.
use Rattle.std.specs.Prelude.{ℕ, ◌+◌, ◌-◌, ◌%◌, Bool, false, cond, not, ◌&&◌, ◌||◌, List, [], ◌∷◌, ◌++◌, length, get_or, take, drop, leb, eqb, Option, Some, None}
use Rattle.text.specs.Text.{same}
use Rattle.frame_kept.specs.Letters.{letter_f, letter_b, letter_h, letter_p, letter_v, letter_d, letter_e}
use Rattle.xml_schema.specs.Schema.{root, param, letter_of, has_line, entries_of, before, behind, nowhere, parent_of}
use Rattle.xml_values.specs.Scan.{is_white, lead}
use Rattle.xml_tags.specs.Tags.{chunks, tag_of, pieces_of, last, closed, fields_of}
use Rattle.xml_tags.specs.declared.Tag.{Tag}
use Rattle.xml_tags.specs.declared.Tag.TheVariants.{Bad, Shut, Open}

-- ---- where we are: in an element that is no Param, its number; in a Param of level 0 to 7 under a BaseHeader, 16 to 23; under a Header, 24 to 31

-- X7: into a Param, and out of one
abbrev pub deeper : ℕ → ℕ
deeper d = cond (eqb d 2) 16 (cond (eqb d 3) 24 (cond (leb 16 d && (leb d 30 && not (eqb d 23))) (d + 1) nowhere))

abbrev pub shallower : ℕ → ℕ
shallower d = cond (eqb d 16) 2 (cond (eqb d 24) 3 (cond (leb 17 d && leb d 31) (d - 1) nowhere))

-- X7: where the start of element k leads from d
abbrev pub enter : ℕ → ℕ → ℕ
enter d k = cond (eqb k param) (deeper d) (cond (eqb d (parent_of k)) k nowhere)

-- X7: where the end of element k leads from d
abbrev pub leave : ℕ → ℕ → ℕ
leave d k = cond (eqb k param) (shallower d) (cond (eqb d k) (cond (eqb k root) behind (parent_of k)) nowhere)

-- X7: where a tag c leads
abbrev pub moved : ℕ → List ℕ → Tag → ℕ
moved d c (Bad n) = nowhere
moved d c (Shut k) = leave d k
moved d c (Open k) = cond (closed c) (leave (enter d k) k) (enter d k)

-- ---- is it within what is read: `None`, or where the first fault is

-- X8: the place of the fault in a tag that stands at a place: its `<`, if the tag itself is right
abbrev pub fault_at : ℕ → List ℕ → Tag → ℕ
fault_at place c (Bad n) = place + n
fault_at place c (Shut k) = place + lead c
fault_at place c (Open k) = place + lead c

-- X8: what stands behind the last tag, at a place: white space, if the root has ended
abbrev pub last_fault : ℕ → ℕ → List ℕ → Option ℕ
last_fault d place c = cond (eqb d behind && eqb (lead c) (length c)) None (Some (place + lead c))

abbrev pub judge : ℕ → ℕ → List (List ℕ) → Option ℕ
judge d place [] = Some place
judge d place (c ∷ []) = last_fault d place c
judge d place (c ∷ e ∷ cs) =
    cond (eqb (moved d c (tag_of c)) nowhere) (Some (fault_at place c (tag_of c))) (judge (moved d c (tag_of c)) (place + length c + 1) (e ∷ cs))

-- ---- the declaration

-- X4: does a tag begin with `<?xml` and a white byte, and end with `?`
abbrev pub is_declaration : List ℕ → Bool
is_declaration c = same (take 5 c) (0x3c ∷ 0x3f ∷ 0x78 ∷ 0x6d ∷ 0x6c ∷ []) && (is_white (get_or c 5 0) && eqb (last c) 0x3f)

-- X4: how many bytes a declaration takes at the front of a document
abbrev pub declared : List (List ℕ) → ℕ
declared [] = 0
declared (c ∷ []) = 0
declared (c ∷ e ∷ cs) = cond (is_declaration c) (length c + 1) 0

abbrev pub start : List ℕ → ℕ
start x = declared (chunks false x)

-- X1, X8: the verdict on a document
abbrev pub verdict : List ℕ → Option ℕ
verdict x = judge before (start x) (chunks false (drop (start x) x))

-- ---- what it says: a line for each element that has one, in document order

-- X9: the level of a Param that leads to the place e, in a field of its own
abbrev pub level : ℕ → ℕ → List ℕ
level k e = cond (eqb k param) (0x09 ∷ (0x30 + e % 8) ∷ []) []

-- X9: the line of element k, which leads to the place e, by its entries and the attributes of its tag
abbrev pub line_of : ℕ → ℕ → List (List ℕ) → List ℕ
line_of k e ps = letter_of k ∷ (level k e ++ fields_of (entries_of k) ps)

abbrev pub with_line : ℕ → List ℕ → Tag → List (List ℕ) → List (List ℕ)
with_line d c (Bad n) ls = []
with_line d c (Shut k) ls = ls
with_line d c (Open k) ls = cond (has_line k) (line_of k (enter d k) (pieces_of c) ∷ ls) ls

-- X9: the lines of the tags, from where we are; what stands behind the last `>` says none
abbrev pub items : ℕ → List (List ℕ) → List (List ℕ)
items d [] = []
items d (c ∷ []) = []
items d (c ∷ e ∷ cs) = with_line d c (tag_of c) (items (moved d c (tag_of c)) (e ∷ cs))

abbrev pub items_of : List ℕ → List (List ℕ)
items_of x = items before (chunks false (drop (start x) x))

-- ---- plain form

-- the letter with which a line begins
abbrev pub letter : List ℕ → ℕ
letter l = get_or l 0 0

-- X10: does a line of this letter own what follows: an F, B, H or D line
abbrev pub owns : ℕ → Bool
owns w = eqb w letter_f || (eqb w letter_b || (eqb w letter_h || eqb w letter_d))

-- X10: the lines of a letter up to the next line that owns what follows
abbrev pub picked : ℕ → List (List ℕ) → List (List ℕ)
picked w [] = []
picked w (l ∷ ls) = cond (owns (letter l)) [] (cond (eqb (letter l) w) (l ∷ picked w ls) (picked w ls))

-- X10: what a line owns: its P lines, then its V lines, then its E lines
abbrev pub owned : List (List ℕ) → List (List ℕ)
owned ls = picked letter_p ls ++ (picked letter_v ls ++ picked letter_e ls)

-- X10: each line of a letter with what it owns
abbrev pub blocks : ℕ → List (List ℕ) → List (List ℕ)
blocks w [] = []
blocks w (l ∷ ls) = cond (eqb (letter l) w) (l ∷ (owned ls ++ blocks w ls)) (blocks w ls)

-- X10: the same lines in plain form: all F, then the blocks of B, of H and of D
abbrev pub arranged : List (List ℕ) → List (List ℕ)
arranged ls = blocks letter_f ls ++ (blocks letter_b ls ++ (blocks letter_h ls ++ blocks letter_d ls))

-- X10: lines, each ended by 0x0A
abbrev pub ended : List (List ℕ) → List ℕ
ended [] = []
ended (l ∷ ls) = l ++ 0x0a ∷ ended ls

-- X10: the text that a document says
abbrev pub text_of : List ℕ → List ℕ
text_of x = ended (arranged (items_of x))
