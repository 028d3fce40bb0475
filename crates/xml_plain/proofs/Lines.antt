-- X9, X10 (docs/RULES.md): the lines of a document with which nothing is wrong. Assumes nothing.
use mathlib.Core.Path.{◌≡◌, refl, ap, ◌∙◌}
use mathlib.Core.Bool.{Bool, true, false, cond, not, ◌&&◌, ◌||◌}
use mathlib.Core.List.{List, [], ◌∷◌, ◌++◌}
use Prim.Native.Nat.{ℕ, zero, suc, ◌+◌, ◌%◌}
use native.Mathlib.Omega.{arith}
use lib.Dec.{eqb, ltb}
use lib.ListN.{length, get_or, drop}
use borrow.Author.Tests.{eqb-true, ne_eqb, not-true}
use Rattle.laws.proofs.Bools.{and_left, and_right}
use Rattle.text.specs.Text.{lines, fields, without, same}
use Rattle.text.specs.Place.{kind_of}
use Rattle.text.specs.Print.{Every}
use Rattle.text.proofs.Printing.{same_is}
use Rattle.xml_schema.specs.Schema.{count, element_of, table, row_of, letter_of, has_line, entries_of, form_of, name_of, form_in, further_flag, is_dropped}
use Rattle.xml_schema.specs.Schema.{before}
use Rattle.xml_values.specs.Scan.{lead, skip, white, word_len, word, after}
use Rattle.xml_values.specs.Values.{valid, says, unsaid}
use Rattle.xml_tags.specs.Tags.{chunks, name_in, has, value_of, is_new, fault, whole, unless, judged, shutting, tag_of, pieces_of, told}
use Rattle.xml_tags.specs.Tags.{part, fields_of}
use Rattle.xml_tags.specs.declared.Tag.{Tag}
use Rattle.xml_tags.specs.declared.Tag.TheVariants.{Bad, Shut, Open}
use Rattle.xml_document.specs.Document.{enter, moved, start, level, line_of, with_line, items, items_of, letter, owns, picked}
use Rattle.xml_document.specs.Document.{owned, blocks}
use Rattle.xml_document.specs.Document.{arranged, ended, text_of}
use Rattle.xml_plain.proofs.Values.{whole_line, both, says-whole, unsaid-whole}
use Rattle.std.specs.Prelude.{Option, Some, None}

-- ---- an attribute that is there has a value that it may have
fault-valid : (es : List (List ℕ)) (place : ℕ) (ps : List (List ℕ)) (n : List ℕ) → fault es place ps ≡ None → has n ps ≡ true
    → valid (form_in es n) (value_of n ps) ≡ true
fault-valid es place [] n f h = absurd (let z : ◌≡◌ {A = ℕ} 0 1 = cc in omega arith)
fault-valid es place (t ∷ []) n f h = absurd (let z : ◌≡◌ {A = ℕ} 0 1 = cc in omega arith)
fault-valid es place (p ∷ v ∷ []) n f h = absurd (let z : ◌≡◌ {A = ℕ} 0 1 = cc in omega arith)
fault-valid es place (p ∷ v ∷ q ∷ ps) n f h =
    by (same (name_in p) n) refl (is_new es p (q ∷ ps)) (valid (form_in es (name_in p)) v) refl f h
    (fault-valid es (place + length p + length v + 2) (q ∷ ps) n)
  where
    by : (a : Bool) → same (name_in p) n ≡ a → (b c : Bool) → valid (form_in es (name_in p)) v ≡ c
        → cond b (cond c (fault es (place + length p + length v + 2) (q ∷ ps)) (Some (place + length p + 1))) (Some place) ≡ None
        → (a || has n (q ∷ ps)) ≡ true
        → (fault es (place + length p + length v + 2) (q ∷ ps) ≡ None → has n (q ∷ ps) ≡ true
        → valid (form_in es n) (value_of n (q ∷ ps)) ≡ true)
        → valid (form_in es n) (cond a v (value_of n (q ∷ ps))) ≡ true
    by a s false c k f h ih = absurd (let z : ◌≡◌ {A = ℕ} 0 1 = cc in omega arith)
    by a s true false k f h ih = absurd (let z : ◌≡◌ {A = ℕ} 0 1 = cc in omega arith)
    by true s true true k f h ih = let e : name_in p ≡ n = same_is (name_in p) n s in rw e at k
    by false s true true k f h ih = ih f h

-- ---- the fields of a line
-- each entry is the first of its name
abbrev agrees : List (List ℕ) → List (List ℕ) → Bool
agrees all [] = true
agrees all (e ∷ es) = eqb (form_in all (name_of e)) (form_of e) && agrees all es

module _ (all : List (List ℕ)) (place : ℕ) (ps : List (List ℕ)) (fine : fault all place ps ≡ None) where
  told-whole : (f : ℕ) (n : List ℕ) → form_in all n ≡ f → is_dropped f ≡ false → whole_line (told f n ps) ≡ true
  told-whole f n e d = by (has n ps) refl
    where
      by : (b : Bool) → has n ps ≡ b → whole_line (cond b (says f (value_of n ps)) (unsaid f)) ≡ true
      by true h = says-whole f (value_of n ps) d (rw e at (fault-valid all place ps n fine h))
      by false h = unsaid-whole f

  part-whole : (f : ℕ) (n : List ℕ) → form_in all n ≡ f → whole_line (part f n ps) ≡ true
  part-whole f n e = by (is_dropped f) refl (eqb f further_flag)
    where
      by : (a : Bool) → is_dropped f ≡ a → (b : Bool) → whole_line (cond a [] (cond b (told f n ps) (0x09 ∷ told f n ps))) ≡ true
      by true d b = refl
      by false d true = told-whole f n e d
      by false d false = told-whole f n e d

  fields-whole : (es : List (List ℕ)) → agrees all es ≡ true → whole_line (fields_of es ps) ≡ true
  fields-whole [] a = refl
  fields-whole (e ∷ es) a =
      both (part (form_of e) (name_of e) ps) (fields_of es ps)
      (part-whole (form_of e) (name_of e) (eqb-true (form_in all (name_of e)) (form_of e) (and_left (eqb (form_in all (name_of e)) (form_of e)) (agrees all es) a)))
      (fields-whole es (and_right (eqb (form_in all (name_of e)) (form_of e)) (agrees all es) a))

-- ---- facts of the table
-- does what is written for these entries begin with a tab, if it is anything
abbrev begins : List (List ℕ) → Bool
begins [] = true
begins (e ∷ es) = cond (is_dropped (form_of e)) (begins es) (not (eqb (form_of e) further_flag))

abbrev sound : List (List ℕ) → Bool
sound fs =
    agrees (drop 1 fs) (drop 1 fs) && (begins (drop 1 fs) && (not (eqb (get_or (get_or fs 0 []) 0 0) 10) && not (eqb (get_or (get_or fs 0 []) 0 0) 9)))

abbrev all_sound : List (List ℕ) → Bool
all_sound [] = true
all_sound (r ∷ rs) = sound (fields r) && all_sound rs

table_sound : all_sound (lines table) ≡ true
unfolding table
table_sound = refl

row_sound : (rs : List (List ℕ)) (k : ℕ) → all_sound rs ≡ true → sound (fields (get_or rs k [])) ≡ true
row_sound [] k p = refl
row_sound (r ∷ rs) zero p = and_left (sound (fields r)) (all_sound rs) p
row_sound (r ∷ rs) (suc k) p = row_sound rs k (and_right (sound (fields r)) (all_sound rs) p)

module _ (k : ℕ) where
  element_sound : sound (row_of k) ≡ true
  element_sound = row_sound (lines table) k table_sound

  agreed : agrees (entries_of k) (entries_of k) ≡ true
  agreed = and_left (agrees (entries_of k) (entries_of k)) _ element_sound

  tabbed : begins (entries_of k) && (not (eqb (letter_of k) 10) && not (eqb (letter_of k) 9)) ≡ true
  tabbed = and_right (agrees (entries_of k) (entries_of k)) _ element_sound

  letter-whole : not (eqb (letter_of k) 10) ≡ true
  letter-whole = and_left (not (eqb (letter_of k) 10)) (not (eqb (letter_of k) 9)) (and_right (begins (entries_of k)) _ tabbed)

  letter-field : not (eqb (letter_of k) 9) ≡ true
  letter-field = and_right (not (eqb (letter_of k) 10)) (not (eqb (letter_of k) 9)) (and_right (begins (entries_of k)) _ tabbed)

-- ---- the first field of a line is its letter
abbrev is_tabbed : List ℕ → Bool
is_tabbed [] = true
is_tabbed (x ∷ xs) = eqb x 9

fields_tabbed : (es ps : List (List ℕ)) → begins es ≡ true → is_tabbed (fields_of es ps) ≡ true
fields_tabbed [] ps b = refl
fields_tabbed (e ∷ es) ps b = by (is_dropped (form_of e)) (eqb (form_of e) further_flag) b (fields_tabbed es ps)
  where
    by : (d g : Bool) → cond d (begins es) (not g) ≡ true → (begins es ≡ true → is_tabbed (fields_of es ps) ≡ true)
        → is_tabbed (cond d [] (cond g (told (form_of e) (name_of e) ps) (0x09 ∷ told (form_of e) (name_of e) ps)) ++ fields_of es ps) ≡ true
    by true g b ih = ih b
    by false true b ih = absurd (let z : ◌≡◌ {A = ℕ} 0 1 = cc in omega arith)
    by false false b ih = refl

level_tabbed : (k e : ℕ) (rest : List ℕ) → is_tabbed rest ≡ true → is_tabbed (level k e ++ rest) ≡ true
level_tabbed k e rest h = by (eqb k 4)
  where
    by : (b : Bool) → is_tabbed (cond b (0x09 ∷ (0x30 + e % 8) ∷ []) [] ++ rest) ≡ true
    by true = refl
    by false = h

kind_is : (x : ℕ) (rest : List ℕ) → eqb x 9 ≡ false → is_tabbed rest ≡ true → kind_of (fields (x ∷ rest)) ≡ x
kind_is x [] n t = rw n
kind_is x (y ∷ ys) n t = rw (n, t)

lettered : (k e : ℕ) (ps : List (List ℕ)) → kind_of (fields (line_of k e ps)) ≡ letter_of k
lettered k e ps =
    kind_is (letter_of k) (level k e ++ fields_of (entries_of k) ps) (not-true (eqb (letter_of k) 9) (letter-field k))
    (level_tabbed k e (fields_of (entries_of k) ps) (fields_tabbed (entries_of k) ps (and_left (begins (entries_of k)) _ (tabbed k))))

-- ---- a line
-- it has no line end, and its kind is its letter
pub record Line (l : List ℕ) : Type 0 where
  pub end : whole_line l ≡ true
  pub kind : kind_of (fields l) ≡ letter l

level-whole : (k e : ℕ) → whole_line (level k e) ≡ true
level-whole k e = by (eqb k 4)
  where
    by : (b : Bool) → whole_line (cond b (0x09 ∷ (0x30 + e % 8) ∷ []) []) ≡ true
    by true = rw (ne_eqb (48 + e % 8) 10 (λ q. omega arith))
    by false = refl

line_of_lem : (k e place : ℕ) (ps : List (List ℕ)) → fault (entries_of k) place ps ≡ None → Line (line_of k e ps)
line_of_lem k e place ps f = record {
  end = rw (letter-whole k) (both (level k e) (fields_of (entries_of k) ps) (level-whole k e) (fields-whole (entries_of k) place ps f (entries_of k) (agreed k)));
  kind = lettered k e ps;
}

-- ---- a start tag
pub record Opens (c : List ℕ) (k : ℕ) : Type 0 where
  pub place : ℕ
  pub fine : fault (entries_of k) place (pieces_of c) ≡ None

open_tag : (c : List ℕ) (k : ℕ) → tag_of c ≡ Open k → Opens c k
open_tag c k q = by (eqb (get_or (skip c) 0 0) 0x3c) (eqb (get_or (skip c) 1 0) 0x2f) (ltb (element_of (word (drop 1 (skip c)))) count) q
  where
    shut : (b : Bool) → cond b (Shut (element_of (word (drop 2 (skip c))))) (Bad (lead c)) ≡ Open k → ⊥
    shut true q = let z : ◌≡◌ {A = ℕ} 0 1 = cc in omega arith
    shut false q = let z : ◌≡◌ {A = ℕ} 0 1 = cc in omega arith

    start_is : (j place : ℕ) (f : Option ℕ) (w : Bool) → fault (entries_of j) place (pieces_of c) ≡ f
        → unless f (cond w (Open j) (Bad (lead c))) ≡ Open k → Opens c k
    start_is j place None true e q = let z : j ≡ k = cc in record { place = place; fine = rw z at e }
    start_is j place None false e q = absurd (let z : ◌≡◌ {A = ℕ} 0 1 = cc in omega arith)
    start_is j place (Some n) w e q = absurd (let z : ◌≡◌ {A = ℕ} 0 1 = cc in omega arith)

    by : (a b d : Bool)
        → cond a (cond b (shutting (lead c) (drop 2 (skip c)))
        (cond d (judged (element_of (word (drop 1 (skip c)))) (entries_of (element_of (word (drop 1 (skip c))))) (lead c)
        (lead c + 1 + word_len (drop 1 (skip c))) (pieces_of c)) (Bad (lead c))))
        (Bad (lead c)) ≡ Open k → Opens c k
    by true true d q = absurd (shut (ltb (element_of (word (drop 2 (skip c)))) count && white (after (drop 2 (skip c)))) q)
    by true false true q =
        start_is (element_of (word (drop 1 (skip c)))) (lead c + 1 + word_len (drop 1 (skip c)))
        (fault (entries_of (element_of (word (drop 1 (skip c))))) (lead c + 1 + word_len (drop 1 (skip c))) (pieces_of c))
        (whole (entries_of (element_of (word (drop 1 (skip c))))) (pieces_of c)) refl q
    by true false false q = absurd (let z : ◌≡◌ {A = ℕ} 0 1 = cc in omega arith)
    by false b d q = absurd (let z : ◌≡◌ {A = ℕ} 0 1 = cc in omega arith)

-- ---- the lines of a document
items-lines : (d : ℕ) (cs : List (List ℕ)) → Every Line (items d cs)
items-lines d [] = tt
items-lines d (c ∷ []) = tt
items-lines d (c ∷ e ∷ cs) = by (tag_of c) refl (items-lines (moved d c (tag_of c)) (e ∷ cs))
  where
    by : (t : Tag) → tag_of c ≡ t → Every Line (items (moved d c (tag_of c)) (e ∷ cs))
        → Every Line (with_line d c t (items (moved d c (tag_of c)) (e ∷ cs)))
    by (Bad n) q r = tt
    by (Shut k) q r = r
    by (Open k) q r = go (has_line k)
      where
        o : Opens c k
        o = open_tag c k q

        go : (b : Bool) → Every Line
            (cond b (line_of k (enter d k) (pieces_of c) ∷ items (moved d c (tag_of c)) (e ∷ cs)) (items (moved d c (tag_of c)) (e ∷ cs)))
        go true = (line_of_lem k (enter d k) o.place (pieces_of c) o.fine, r)
        go false = r

-- ---- in plain form they are the same lines
module _ (X : List ℕ → Type 0) where
  every_both : (a b : List (List ℕ)) → Every X a → Every X b → Every X (a ++ b)
  every_both [] b p q = q
  every_both (l ∷ ls) b p q = (p.0, every_both ls b p.1 q)

  every_picked : (w : ℕ) (ls : List (List ℕ)) → Every X ls → Every X (picked w ls)
  every_picked w [] p = tt
  every_picked w (l ∷ ls) p = by (owns (letter l)) (eqb (letter l) w) (every_picked w ls p.1)
    where
      by : (a b : Bool) → Every X (picked w ls) → Every X (cond a [] (cond b (l ∷ picked w ls) (picked w ls)))
      by true b q = tt
      by false true q = (p.0, q)
      by false false q = q

  every_owned : (ls : List (List ℕ)) → Every X ls → Every X (owned ls)
  every_owned ls p =
      every_both (picked 0x50 ls) (picked 0x56 ls ++ picked 0x45 ls) (every_picked 0x50 ls p)
      (every_both (picked 0x56 ls) (picked 0x45 ls) (every_picked 0x56 ls p) (every_picked 0x45 ls p))

  every_blocks : (w : ℕ) (ls : List (List ℕ)) → Every X ls → Every X (blocks w ls)
  every_blocks w [] p = tt
  every_blocks w (l ∷ ls) p = by (eqb (letter l) w) (every_blocks w ls p.1)
    where
      by : (b : Bool) → Every X (blocks w ls) → Every X (cond b (l ∷ (owned ls ++ blocks w ls)) (blocks w ls))
      by true q = (p.0, every_both (owned ls) (blocks w ls) (every_owned ls p.1) q)
      by false q = q

  every_arranged : (ls : List (List ℕ)) → Every X ls → Every X (arranged ls)
  every_arranged ls p =
      every_both (blocks 0x46 ls) (blocks 0x42 ls ++ (blocks 0x48 ls ++ blocks 0x44 ls)) (every_blocks 0x46 ls p)
      (every_both (blocks 0x42 ls) (blocks 0x48 ls ++ blocks 0x44 ls) (every_blocks 0x42 ls p)
      (every_both (blocks 0x48 ls) (blocks 0x44 ls) (every_blocks 0x48 ls p) (every_blocks 0x44 ls p)))

-- ---- the lines of a text
lines-append : (l rest : List ℕ) → whole_line l ≡ true → lines (l ++ 0x0a ∷ rest) ≡ l ∷ lines rest
lines-append [] rest e = refl
lines-append (x ∷ xs) rest e =
    rw (not-true (eqb x 10) (and_left (not (eqb x 10)) (without 10 xs) e), lines-append xs rest (and_right (not (eqb x 10)) (without 10 xs) e))

lines-ended : (ls : List (List ℕ)) → Every Line ls → lines (ended ls) ≡ ls ++ ([] ∷ [])
lines-ended [] p = refl
lines-ended (l ∷ ls) p = lines-append l (ended ls) p.0.end ∙ ap (λ r. l ∷ r) (lines-ended ls p.1)

-- X9: each line of the elements of a document begins with its letter as a field of its own, and has no line end
pub document-lines : (x : List ℕ) → Every Line (items_of x)
document-lines x = items-lines before (chunks false (drop (start x) x))

-- X9: and so does each line of its text
pub text_line : (x : List ℕ) → Every Line (arranged (items_of x))
text_line x = every_arranged Line (items_of x) (document-lines x)

-- X10: the lines of the text that a document says are the lines of its elements, in plain form
pub text-lines : (x : List ℕ) → lines (text_of x) ≡ arranged (items_of x) ++ ([] ∷ [])
text-lines x = lines-ended (arranged (items_of x)) (text_line x)
