-- Laws on attributes: those that are written for a line are read, by any entries whose names are letters and differ. Assumes nothing.
use mathlib.Core.Path.{◌≡◌, refl, sym, ap, ◌∙◌}
use mathlib.Core.Bool.{Bool, true, false, cond, not, ◌&&◌, ◌||◌}
use mathlib.Core.List.{List, [], ◌∷◌, ◌++◌, append_assoc}
use Prim.Native.Nat.{ℕ, ◌+◌, ◌-◌, ◌≤◌}
use native.Mathlib.Omega.{arith}
use lib.Dec.{eqb, leb}
use lib.ListN.{length, get_or, take, drop}
use borrow.Author.Tests.{leb-true, eq-eqb, ne_eqb, eqb-true}
use Rattle.laws.proofs.Bools.{and_left, and_right}
use Rattle.text.specs.Text.{split, same, within, without, decimal, up_to, field, missing}
use Rattle.text.proofs.Printing.{missing_is, same_is}
use Rattle.xml_schema.specs.Schema.{form_of, name_of, form_in, words, optional_words, number, optional_number, hex_number, flag, further_flag, is_optional, is_dropped}
use Rattle.xml_values.specs.Scan.{is_white, lead, skip, is_letter, word_len, word, after}
use Rattle.xml_values.specs.Values.{valid, says, unsaid}
use Rattle.xml_tags.specs.Tags.{name_in, is_name, is_end, has, value_of, is_new, fault, whole, told, part, fields_of}
use Rattle.xml_attributes.specs.Attributes.{value_for, is_absent, label, attribute, field_after, digit_after, attributes}
use Rattle.xml_laws.proofs.Values.{undo-escaped, quotes_escaped, loose-escaped, words-escaped}
use Rattle.xml_laws.proofs.Values.{decimal-says, decimal-valid, hex-valid, hex-says, quotes_hexed}
use Rattle.xml_laws.proofs.Values.{is_bit, flag-says, flag-valid, quotes_flagged, given-escaped, not_is, without-append}
use Rattle.std.specs.Prelude.{Some, None}

-- ---- what a field must be for its attribute, by the form
abbrev pub fits_at : ℕ → List (List ℕ) → ℕ → ℕ → Bool
fits_at f fs k j =
    cond (is_dropped f) true
    (cond (eqb f words) (within 0x20 0xff (field k fs))
    (cond (eqb f optional_words) (missing (field k fs) || within 0x20 0xff (field k fs))
    (cond (eqb f number) (decimal (field k fs))
    (cond (eqb f optional_number) (missing (field k fs) || decimal (field k fs))
    (cond (eqb f hex_number) (up_to 65535 (field k fs))
    (cond (eqb f flag) (is_bit (get_or (field k fs) 0 0))
    (cond (eqb f further_flag) (is_bit (get_or (field (k - 1) fs) j 0)) false)))))))

-- what it says in the line
abbrev pub said_at : ℕ → List (List ℕ) → ℕ → ℕ → List ℕ
said_at f fs k j =
    cond (eqb f flag) (get_or (field k fs) 0 0 ∷ [])
    (cond (eqb f further_flag) (get_or (field (k - 1) fs) j 0 ∷ []) (field k fs))

-- an attribute that is written has a value that is read, in which no quote stands, and which says the field
pub record Reads (f : ℕ) (fs : List (List ℕ)) (k j : ℕ) : Type 0 where
  pub good : valid f (value_for f fs k j) ≡ true
  pub quiet : without 0x22 (value_for f fs k j) ≡ true
  pub tells : is_dropped f ≡ false → says f (value_for f fs k j) ≡ said_at f fs k j

or-given : (a b : Bool) → (a || b) ≡ true → a ≡ false → b ≡ true
or-given true b h e = absurd (let z : ◌≡◌ {A = ℕ} 0 1 = cc in omega arith)
or-given false b h e = h

never : (b : Bool) → b ≡ true → b ≡ false → ⊥
never true p q = let z : ◌≡◌ {A = ℕ} 0 1 = cc in omega arith
never false p q = let z : ◌≡◌ {A = ℕ} 0 1 = cc in omega arith

module _ (fs : List (List ℕ)) (k j : ℕ) where
  reads_dropped : (f : ℕ) → is_dropped f ≡ true → Reads f fs k j
  reads_dropped f d = record {
    good = rw d (loose-escaped (field (f - 0x30) fs));
    quiet = rw d (quotes_escaped (field (f - 0x30) fs));
    tells = λ n. absurd (never (is_dropped f) d n);
  }

  reads_words : within 0x20 0xff (field k fs) ≡ true → Reads words fs k j
  reads_words h = record { good = words-escaped (field k fs) h; quiet = quotes_escaped (field k fs); tells = λ n. undo-escaped (field k fs) }

  reads_optional : missing (field k fs) ≡ false → within 0x20 0xff (field k fs) ≡ true → Reads optional_words fs k j
  reads_optional m h = record {
    good = rw (given-escaped (field k fs) m, words-escaped (field k fs) h);
    quiet = quotes_escaped (field k fs);
    tells = λ n. undo-escaped (field k fs);
  }

  reads_number : decimal (field k fs) ≡ true → Reads number fs k j
  reads_number h = record { good = decimal-valid (field k fs) h; quiet = quotes_escaped (field k fs); tells = λ n. decimal-says (field k fs) h }

  reads_optional-number : decimal (field k fs) ≡ true → Reads optional_number fs k j
  reads_optional-number h = record { good = decimal-valid (field k fs) h; quiet = quotes_escaped (field k fs); tells = λ n. decimal-says (field k fs) h }

  reads_hex : up_to 65535 (field k fs) ≡ true → Reads hex_number fs k j
  reads_hex h = record { good = hex-valid (field k fs) h; quiet = quotes_hexed (field k fs); tells = λ n. hex-says (field k fs) h }

  reads_flag : is_bit (get_or (field k fs) 0 0) ≡ true → Reads flag fs k j
  reads_flag h = record {
    good = flag-valid (get_or (field k fs) 0 0) h;
    quiet = quotes_flagged (get_or (field k fs) 0 0);
    tells = λ n. ap (λ (x : ℕ). x ∷ []) (flag-says (get_or (field k fs) 0 0) h);
  }

  reads_further : is_bit (get_or (field (k - 1) fs) j 0) ≡ true → Reads further_flag fs k j
  reads_further h = record {
    good = flag-valid (get_or (field (k - 1) fs) j 0) h;
    quiet = quotes_flagged (get_or (field (k - 1) fs) j 0);
    tells = λ n. ap (λ (x : ℕ). x ∷ []) (flag-says (get_or (field (k - 1) fs) j 0) h);
  }

  pub reads_form : (f : ℕ) → fits_at f fs k j ≡ true → is_absent f fs k ≡ false → Reads f fs k j
  reads_form f fits there =
      go (is_dropped f) (eqb f words) (eqb f optional_words) (eqb f number) (eqb f optional_number) (eqb f hex_number) (eqb f flag) (eqb f further_flag)
      refl refl refl refl refl refl refl refl fits
    where
      go : (a b c d e g h i : Bool) → is_dropped f ≡ a → eqb f words ≡ b → eqb f optional_words ≡ c → eqb f number ≡ d
          → eqb f optional_number ≡ e
          → eqb f hex_number ≡ g → eqb f flag ≡ h → eqb f further_flag ≡ i
          → cond a true
          (cond b (within 0x20 0xff (field k fs))
          (cond c (missing (field k fs) || within 0x20 0xff (field k fs))
          (cond d (decimal (field k fs))
          (cond e (missing (field k fs) || decimal (field k fs))
          (cond g (up_to 65535 (field k fs))
          (cond h (is_bit (get_or (field k fs) 0 0)) (cond i (is_bit (get_or (field (k - 1) fs) j 0)) false))))))) ≡ true
          → Reads f fs k j
      go true b c d e g h i p q r s t u v w z = reads_dropped f p
      go false true c d e g h i p q r s t u v w z = rw (eqb-true f words q) (reads_words z)
      go false false true d e g h i p q r s t u v w z =
          let is : f ≡ optional_words = eqb-true f optional_words r in
          let given : missing (field k fs) ≡ false = rw is at there in
          rw is (reads_optional given (or-given (missing (field k fs)) (within 0x20 0xff (field k fs)) z given))
      go false false false true e g h i p q r s t u v w z = rw (eqb-true f number s) (reads_number z)
      go false false false false true g h i p q r s t u v w z =
          let is : f ≡ optional_number = eqb-true f optional_number t in
          let given : missing (field k fs) ≡ false = rw is at there in
          rw is (reads_optional-number (or-given (missing (field k fs)) (decimal (field k fs)) z given))
      go false false false false false true h i p q r s t u v w z = rw (eqb-true f hex_number u) (reads_hex z)
      go false false false false false false true i p q r s t u v w z = rw (eqb-true f flag v) (reads_flag z)
      go false false false false false false false true p q r s t u v w z = rw (eqb-true f further_flag w) (reads_further z)
      go false false false false false false false false p q r s t u v w z = absurd (let y : ◌≡◌ {A = ℕ} 0 1 = cc in omega arith)

  -- an attribute that is not written may be missing, and says what the field says
  pub absent_optional : (f : ℕ) → is_absent f fs k ≡ true → is_optional f ≡ true
  absent_optional f e = go (eqb f optional_words) (eqb f optional_number) (and_left (eqb f optional_words || eqb f optional_number) (missing (field k fs)) e)
    where
      go : (a b : Bool) → (a || b) ≡ true → (a || (b || (eqb f flag || eqb f further_flag))) ≡ true
      go true b h = refl
      go false true h = refl
      go false false h = absurd (let y : ◌≡◌ {A = ℕ} 0 1 = cc in omega arith)

  pub absent_says : (f : ℕ) → is_absent f fs k ≡ true → unsaid f ≡ said_at f fs k j
  absent_says f e =
      go (eqb f optional_words) (eqb f optional_number) refl refl (and_left (eqb f optional_words || eqb f optional_number) (missing (field k fs)) e)
    where
      none : 0x2d ∷ [] ≡ field k fs
      none = sym (missing_is (field k fs) (and_right (eqb f optional_words || eqb f optional_number) (missing (field k fs)) e))

      go : (a b : Bool) → eqb f optional_words ≡ a → eqb f optional_number ≡ b → (a || b) ≡ true → unsaid f ≡ said_at f fs k j
      go true b p q h = rw (eqb-true f optional_words p) none
      go false true p q h = rw (eqb-true f optional_number q) none
      go false false p q h = absurd (let y : ◌≡◌ {A = ℕ} 0 1 = cc in omega arith)

-- ---- names of letters
abbrev pub letters : List ℕ → Bool
letters [] = true
letters (x ∷ xs) = is_letter x && letters xs

word-length : (n rest : List ℕ) (x : ℕ) → letters n ≡ true → is_letter x ≡ false → word_len (n ++ x ∷ rest) ≡ length n
word-length [] rest x l e = rw e
word-length (y ∷ ys) rest x l e = rw (and_left (is_letter y) (letters ys) l, word-length ys rest x (and_right (is_letter y) (letters ys) l) e)

pub take_front : (l m : List ℕ) → take (length l) (l ++ m) ≡ l
take_front [] m = refl
take_front (x ∷ xs) m = ap (λ (l : List ℕ). x ∷ l) (take_front xs m)

pub drop_front : (l m : List ℕ) → drop (length l) (l ++ m) ≡ m
drop_front [] m = refl
drop_front (x ∷ xs) m = drop_front xs m

pub word_is : (n rest : List ℕ) (x : ℕ) → letters n ≡ true → is_letter x ≡ false → word (n ++ x ∷ rest) ≡ n
word_is n rest x l e = rw (word-length n rest x l e) (take_front n (x ∷ rest))

pub after_is : (n rest : List ℕ) (x : ℕ) → letters n ≡ true → is_letter x ≡ false → after (n ++ x ∷ rest) ≡ x ∷ rest
after_is n rest x l e = rw (word-length n rest x l e) (drop_front n (x ∷ rest))

letter_black : (x : ℕ) → is_letter x ≡ true → is_white x ≡ false
letter_black x e =
    let low : 0x41 ≤ x = leb-true 0x41 x (and_left (leb 0x41 x) _ e) in
    rw (ne_eqb x 0x20 (λ q. omega arith), ne_eqb x 0x09 (λ q. omega arith), ne_eqb x 0x0a (λ q. omega arith), ne_eqb x 0x0d (λ q. omega arith))

letter_unquoted : (n : List ℕ) → letters n ≡ true → without 0x22 n ≡ true
letter_unquoted [] e = refl
letter_unquoted (x ∷ xs) e =
    let low : 0x41 ≤ x = leb-true 0x41 x (and_left (leb 0x41 x) _ (and_left (is_letter x) (letters xs) e)) in
    rw (ne_eqb x 0x22 (λ q. omega arith)) (letter_unquoted xs (and_right (is_letter x) (letters xs) e))

-- no space stands before a name
lead-name : (n rest : List ℕ) (x : ℕ) → letters n ≡ true → is_white x ≡ false → lead (n ++ x ∷ rest) ≡ 0
lead-name [] rest x l e = rw e
lead-name (y ∷ ys) rest x l e = rw (letter_black y (and_left (is_letter y) (letters ys) l))

-- what stands before a value
abbrev pub labelled : List ℕ → List ℕ
labelled n = 0x20 ∷ (n ++ 0x3d ∷ [])

skip-label : (n : List ℕ) → letters n ≡ true → skip (labelled n) ≡ n ++ 0x3d ∷ []
skip-label n l = rw (lead-name n [] 0x3d l refl)

pub name-label : (n : List ℕ) → letters n ≡ true → name_in (labelled n) ≡ n
name-label n l = rw (skip-label n l) (word_is n [] 0x3d l refl)

pub is_label : (n : List ℕ) → letters n ≡ true → is_name (labelled n) ≡ true
is_label n l = rw (lead-name n [] 0x3d l refl) (rw (after_is n [] 0x3d l refl))

-- ---- the pieces between quotes
split-append : (b : ℕ) (p rest : List ℕ) → without b p ≡ true → split b (p ++ b ∷ rest) ≡ p ∷ split b rest
split-append b [] rest e = rw (eq-eqb b b refl)
split-append b (x ∷ xs) rest e =
    rw (not_is (eqb x b) (and_left (not (eqb x b)) (without b xs) e), split-append b xs rest (and_right (not (eqb x b)) (without b xs) e))

attribute_pieces : (n v rest : List ℕ) → letters n ≡ true → without 0x22 v ≡ true
    → split 0x22 (attribute n v ++ rest) ≡ labelled n ∷ v ∷ split 0x22 rest
attribute_pieces n v rest l q =
    let shape : attribute n v ++ rest ≡ labelled n ++ 0x22 ∷ (v ++ 0x22 ∷ rest) =
    append_assoc (label n) (v ++ (0x22 ∷ [])) rest ∙ rw (append_assoc v (0x22 ∷ []) rest)
    (ap (λ (l : List ℕ). 0x20 ∷ l) (append_assoc n (0x3d ∷ 0x22 ∷ []) (v ++ 0x22 ∷ rest) ∙ sym
    (append_assoc n (0x3d ∷ []) (0x22 ∷ (v ++ 0x22 ∷ rest))))) in
    let quiet : without 0x22 (labelled n) ≡ true = without-append 0x22 n (0x3d ∷ []) (letter_unquoted n l) refl in
    ap (split 0x22) shape ∙ split-append 0x22 (labelled n) (v ++ 0x22 ∷ rest) quiet ∙ ap (λ (ps : List (List ℕ)). labelled n ∷ ps)
    (split-append 0x22 v rest q)

module _ (fs : List (List ℕ)) (end : List ℕ) where
  abbrev pub pieces : List (List ℕ) → ℕ → ℕ → List (List ℕ)
  pieces [] k j = end ∷ []
  pieces (e ∷ es) k j =
      cond (is_absent (form_of e) fs k) (pieces es (field_after (form_of e) k) (digit_after (form_of e) j))
      (labelled (name_of e) ∷ value_for (form_of e) fs k j ∷ pieces es (field_after (form_of e) k) (digit_after (form_of e) j))

-- entries that can be read back: names of letters, each of a form, that do not come again
abbrev pub sound : List (List ℕ) → Bool
sound [] = true
sound (e ∷ es) = (letters (name_of e) && not (eqb (form_of e) 0)) && (eqb (form_in es (name_of e)) 0 && sound es)

-- fields that fit their entries
abbrev pub fitting : List (List ℕ) → List (List ℕ) → ℕ → ℕ → Bool
fitting fs [] k j = true
fitting fs (e ∷ es) k j = fits_at (form_of e) fs k j && fitting fs es (field_after (form_of e) k) (digit_after (form_of e) j)

-- ---- the attributes that are written, read
same_self : (l : List ℕ) → same l l ≡ true
same_self [] = refl
same_self (x ∷ xs) = rw (eq-eqb x x refl) (same_self xs)

same_turned : (l m : List ℕ) → same l m ≡ false → same m l ≡ false
same_turned l m e = go (same m l) refl
  where
    go : (t : Bool) → same m l ≡ t → t ≡ false
    go false q = refl
    go true q =
        let i : m ≡ l = same_is m l q in
        let s : same l m ≡ true = rw i (same_self l) in
        absurd (never (same l m) s e)

has_more : (n p v : List ℕ) (ps : List (List ℕ)) → 1 ≤ length ps → has n (p ∷ v ∷ ps) ≡ (same (name_in p) n || has n ps)
has_more n p v [] h = absurd (omega arith)
has_more n p v (q ∷ ps) h = refl

value-more : (n p v : List ℕ) (ps : List (List ℕ)) → 1 ≤ length ps → value_of n (p ∷ v ∷ ps) ≡ cond (same (name_in p) n) v (value_of n ps)
value-more n p v [] h = absurd (omega arith)
value-more n p v (q ∷ ps) h = refl

fault-more : (es : List (List ℕ)) (place : ℕ) (p v : List ℕ) (ps : List (List ℕ)) → 1 ≤ length ps → fault es place (p ∷ v ∷ ps)
    ≡ cond (is_new es p ps) (cond (valid (form_in es (name_in p)) v) (fault es (place + length p + length v + 2) ps) (Some (place + length p + 1))) (Some place)
fault-more es place p v [] h = absurd (omega arith)
fault-more es place p v (q ∷ ps) h = refl

-- the parts of an entry that is sound
module _ (e : List ℕ) (es : List (List ℕ)) (s : sound (e ∷ es) ≡ true) where
  front : (letters (name_of e) && not (eqb (form_of e) 0)) ≡ true
  front = and_left (letters (name_of e) && not (eqb (form_of e) 0)) (eqb (form_in es (name_of e)) 0 && sound es) s

  rear : (eqb (form_in es (name_of e)) 0 && sound es) ≡ true
  rear = and_right (letters (name_of e) && not (eqb (form_of e) 0)) (eqb (form_in es (name_of e)) 0 && sound es) s

  pub sound_name : letters (name_of e) ≡ true
  sound_name = and_left (letters (name_of e)) (not (eqb (form_of e) 0)) front

  sound_form : not (eqb (form_of e) 0) ≡ true
  sound_form = and_right (letters (name_of e)) (not (eqb (form_of e) 0)) front

  sound_new : form_in es (name_of e) ≡ 0
  sound_new = eqb-true (form_in es (name_of e)) 0 (and_left (eqb (form_in es (name_of e)) 0) (sound es) rear)

  pub sound_rest : sound es ≡ true
  sound_rest = and_right (eqb (form_in es (name_of e)) 0) (sound es) rear

module _ (fs : List (List ℕ)) (end : List ℕ) where
  pieces_some : (es : List (List ℕ)) (k j : ℕ) → 1 ≤ length (pieces fs end es k j)
  pieces_some [] k j = omega arith
  pieces_some (e ∷ es) k j = go (is_absent (form_of e) fs k) (pieces_some es (field_after (form_of e) k) (digit_after (form_of e) j))
    where
      go : (t : Bool) → 1 ≤ length (pieces fs end es (field_after (form_of e) k) (digit_after (form_of e) j)) → 1
          ≤ length
          (cond t (pieces fs end es (field_after (form_of e) k) (digit_after (form_of e) j))
          (labelled (name_of e) ∷ value_for (form_of e) fs k j ∷ pieces fs end es (field_after (form_of e) k) (digit_after (form_of e) j)))
      go true h = h
      go false h = omega arith

  -- what quotes part is a name, a value, and so on
  pub pieces_are : (es : List (List ℕ)) (k j : ℕ) → sound es ≡ true → fitting fs es k j ≡ true → split 0x22 end ≡ end ∷ []
      → split 0x22 (attributes es fs k j ++ end) ≡ pieces fs end es k j
  unfolding attributes
  pieces_are [] k j s f d = d
  pieces_are (e ∷ es) k j s f d =
      go (is_absent (form_of e) fs k) refl
      (pieces_are es (field_after (form_of e) k) (digit_after (form_of e) j) (sound_rest e es s)
      (and_right (fits_at (form_of e) fs k j) (fitting fs es (field_after (form_of e) k) (digit_after (form_of e) j)) f) d)
    where
      more : List ℕ
      more = attributes es fs (field_after (form_of e) k) (digit_after (form_of e) j)

      rest : List (List ℕ)
      rest = pieces fs end es (field_after (form_of e) k) (digit_after (form_of e) j)

      go : (t : Bool) → is_absent (form_of e) fs k ≡ t → split 0x22 (more ++ end) ≡ rest
          → split 0x22 ((cond t [] (attribute (name_of e) (value_for (form_of e) fs k j)) ++ more) ++ end)
          ≡ cond t rest (labelled (name_of e) ∷ value_for (form_of e) fs k j ∷ rest)
      go true q ih = ih
      go false q ih =
          let r : Reads (form_of e) fs k j =
          reads_form fs k j (form_of e)
          (and_left (fits_at (form_of e) fs k j) (fitting fs es (field_after (form_of e) k) (digit_after (form_of e) j)) f) q in
          ap (split 0x22) (append_assoc (attribute (name_of e) (value_for (form_of e) fs k j)) more end)
          ∙ attribute_pieces (name_of e) (value_for (form_of e) fs k j) (more ++ end) (sound_name e es s) r.quiet
          ∙ ap (λ (ps : List (List ℕ)). labelled (name_of e) ∷ value_for (form_of e) fs k j ∷ ps) ih

  -- a name that is none of the entries' does not stand there
  none_has : (es : List (List ℕ)) (k j : ℕ) (n : List ℕ) → sound es ≡ true → form_in es n ≡ 0 → has n (pieces fs end es k j) ≡ false
  none_has [] k j n s z = refl
  none_has (e ∷ es) k j n s z =
      go (same n (name_of e)) (is_absent (form_of e) fs k) refl z (none_has es (field_after (form_of e) k) (digit_after (form_of e) j) n (sound_rest e es s))
    where
      rest : List (List ℕ)
      rest = pieces fs end es (field_after (form_of e) k) (digit_after (form_of e) j)

      go : (t a : Bool) → same n (name_of e) ≡ t → cond t (form_of e) (form_in es n) ≡ 0 → (form_in es n ≡ 0 → has n rest ≡ false)
          → has n (cond a rest (labelled (name_of e) ∷ value_for (form_of e) fs k j ∷ rest)) ≡ false
      go true a q z ih =
          absurd (never (not (eqb (form_of e) 0)) (sound_form e es s) (rw (eq-eqb (form_of e) 0 z)))
      go false true q z ih = ih z
      go false false q z ih =
          has_more n (labelled (name_of e)) (value_for (form_of e) fs k j) rest (pieces_some es (field_after (form_of e) k) (digit_after (form_of e) j))
          ∙ rw (name-label (name_of e) (sound_name e es s), same_turned n (name_of e) q) (ih z)

-- entries that say of each name what all of them say
abbrev pub agreeing : List (List ℕ) → List (List ℕ) → Bool
agreeing all [] = true
agreeing all (e ∷ es) = eqb (form_in all (name_of e)) (form_of e) && agreeing all es

module _ (fs : List (List ℕ)) (end : List ℕ) (all : List (List ℕ)) where
  -- no fault is among them
  pub fault-none : (es : List (List ℕ)) (k j place : ℕ) → sound es ≡ true → fitting fs es k j ≡ true → agreeing all es ≡ true
      → is_end end ≡ true
      → fault all place (pieces fs end es k j) ≡ None
  fault-none [] k j place s f a d = rw d
  fault-none (e ∷ es) k j place s f a d = go (is_absent (form_of e) fs k) refl
      (λ (p : ℕ). fault-none es (field_after (form_of e) k) (digit_after (form_of e) j) p
      (sound_rest e es s) (and_right (fits_at (form_of e) fs k j) (fitting fs es (field_after (form_of e) k) (digit_after (form_of e) j)) f)
      (and_right (eqb (form_in all (name_of e)) (form_of e)) (agreeing all es) a) d)
    where
      go : (t : Bool) → is_absent (form_of e) fs k ≡ t
          → ((p : ℕ) → fault all p (pieces fs end es (field_after (form_of e) k) (digit_after (form_of e) j)) ≡ None)
          → fault all place
          (cond t (pieces fs end es (field_after (form_of e) k) (digit_after (form_of e) j))
          (labelled (name_of e) ∷ value_for (form_of e) fs k j ∷ pieces fs end es (field_after (form_of e) k) (digit_after (form_of e) j))) ≡ None
      go true q ih = ih place
      go false q ih =
          let r : Reads (form_of e) fs k j =
          reads_form fs k j (form_of e)
          (and_left (fits_at (form_of e) fs k j) (fitting fs es (field_after (form_of e) k) (digit_after (form_of e) j)) f) q in
          let is : form_in all (name_of e) ≡ form_of e =
          eqb-true (form_in all (name_of e)) (form_of e) (and_left (eqb (form_in all (name_of e)) (form_of e)) (agreeing all es) a) in
          let name : name_in (labelled (name_of e)) ≡ name_of e = name-label (name_of e) (sound_name e es s) in
          let once : has (name_of e) (pieces fs end es (field_after (form_of e) k) (digit_after (form_of e) j)) ≡ false =
          none_has fs end es (field_after (form_of e) k) (digit_after (form_of e) j) (name_of e) (sound_rest e es s) (sound_new e es s) in
          fault-more all place (labelled (name_of e)) (value_for (form_of e) fs k j) (pieces fs end es (field_after (form_of e) k) (digit_after (form_of e) j))
          (pieces_some fs end es (field_after (form_of e) k) (digit_after (form_of e) j))
          ∙ rw (is_label (name_of e) (sound_name e es s), name, is, sound_form e es s, once, r.good)
          (ih (place + length (labelled (name_of e)) + length (value_for (form_of e) fs k j) + 2))

-- what is found in ps by the names of entries is found among the pieces that are written for them
pub record Alike (fs : List (List ℕ)) (end : List ℕ) (ps es : List (List ℕ)) (k j : ℕ) : Type 0 where
  pub there : (n : List ℕ) → (form_in es n ≡ 0 → ⊥) → has n ps ≡ has n (pieces fs end es k j)
  pub value : (n : List ℕ) → (form_in es n ≡ 0 → ⊥) → value_of n ps ≡ value_of n (pieces fs end es k j)

module _ (fs : List (List ℕ)) (end : List ℕ) where
  pub alike-start : (es : List (List ℕ)) (k j : ℕ) → Alike fs end (pieces fs end es k j) es k j
  alike-start es k j = record { there = λ n h. refl; value = λ n h. refl }

  module _ (ps : List (List ℕ)) (e : List ℕ) (es : List (List ℕ)) (k j : ℕ) (alike : Alike fs end ps (e ∷ es) k j)
      (s : sound (e ∷ es) ≡ true) where
    abbrev rest : List (List ℕ)
    rest = pieces fs end es (field_after (form_of e) k) (digit_after (form_of e) j)

    -- the name of another entry
    other : (n : List ℕ) → (form_in es n ≡ 0 → ⊥) → same n (name_of e) ≡ false
    other n h = go (same n (name_of e)) refl
      where
        go : (t : Bool) → same n (name_of e) ≡ t → t ≡ false
        go false q = refl
        go true q = let i : n ≡ name_of e = same_is n (name_of e) q in absurd (h (rw i (sound_new e es s)))

    still : (n : List ℕ) → (form_in es n ≡ 0 → ⊥) → form_in (e ∷ es) n ≡ 0 → ⊥
    still n h z = h (rw (other n h) at z)

    has_on : (n : List ℕ) → (form_in es n ≡ 0 → ⊥) → has n (pieces fs end (e ∷ es) k j) ≡ has n rest
    has_on n h = go (is_absent (form_of e) fs k)
      where
        go : (t : Bool) → has n (cond t rest (labelled (name_of e) ∷ value_for (form_of e) fs k j ∷ rest)) ≡ has n rest
        go true = refl
        go false =
            has_more n (labelled (name_of e)) (value_for (form_of e) fs k j) rest (pieces_some fs end es (field_after (form_of e) k) (digit_after (form_of e) j))
            ∙ rw (name-label (name_of e) (sound_name e es s), same_turned n (name_of e) (other n h))

    value_on : (n : List ℕ) → (form_in es n ≡ 0 → ⊥) → value_of n (pieces fs end (e ∷ es) k j) ≡ value_of n rest
    value_on n h = go (is_absent (form_of e) fs k)
      where
        go : (t : Bool) → value_of n (cond t rest (labelled (name_of e) ∷ value_for (form_of e) fs k j ∷ rest)) ≡ value_of n rest
        go true = refl
        go false =
            value-more n (labelled (name_of e)) (value_for (form_of e) fs k j) rest (pieces_some fs end es (field_after (form_of e) k) (digit_after (form_of e) j))
            ∙ rw (name-label (name_of e) (sound_name e es s), same_turned n (name_of e) (other n h))

    pub alike_next : Alike fs end ps es (field_after (form_of e) k) (digit_after (form_of e) j)
    alike_next = record {
      there = λ n h. alike.there n (still n h) ∙ has_on n h;
      value = λ n h. alike.value n (still n h) ∙ value_on n h;
    }

    -- the name of this entry
    own : form_in (e ∷ es) (name_of e) ≡ 0 → ⊥
    own z =
        let f : form_of e ≡ 0 = rw (same_self (name_of e)) at z in
        never (not (eqb (form_of e) 0)) (sound_form e es s) (rw (eq-eqb (form_of e) 0 f))

    module _ (there : is_absent (form_of e) fs k ≡ false) where
      pub own_has : has (name_of e) ps ≡ true
      own_has =
          alike.there (name_of e) own
          ∙ rw there (has_more (name_of e) (labelled (name_of e)) (value_for (form_of e) fs k j) rest
          (pieces_some fs end es (field_after (form_of e) k) (digit_after (form_of e) j))
          ∙ rw (name-label (name_of e) (sound_name e es s), same_self (name_of e)))

      pub own_value : value_of (name_of e) ps ≡ value_for (form_of e) fs k j
      own_value =
          alike.value (name_of e) own
          ∙ rw there (value-more (name_of e) (labelled (name_of e)) (value_for (form_of e) fs k j) rest
          (pieces_some fs end es (field_after (form_of e) k) (digit_after (form_of e) j))
          ∙ rw (name-label (name_of e) (sound_name e es s), same_self (name_of e)))

    pub own_not : is_absent (form_of e) fs k ≡ true → has (name_of e) ps ≡ false
    own_not gone =
        alike.there (name_of e) own
        ∙ rw gone (none_has fs end es (field_after (form_of e) k) (digit_after (form_of e) j) (name_of e) (sound_rest e es s) (sound_new e es s))

  -- each attribute is there that may not be missing
  pub whole_is : (ps es : List (List ℕ)) (k j : ℕ) → Alike fs end ps es k j → sound es ≡ true → whole es ps ≡ true
  whole_is ps [] k j alike s = refl
  whole_is ps (e ∷ es) k j alike s =
      go (is_absent (form_of e) fs k) refl
      (whole_is ps es (field_after (form_of e) k) (digit_after (form_of e) j) (alike_next ps e es k j alike s) (sound_rest e es s))
    where
      or_true : (b : Bool) → (b || true) ≡ true
      or_true true = refl
      or_true false = refl

      go : (t : Bool) → is_absent (form_of e) fs k ≡ t → whole es ps ≡ true → ((is_optional (form_of e) || has (name_of e) ps) && whole es ps) ≡ true
      go true q ih = rw (absent_optional fs k j (form_of e) q, ih)
      go false q ih = rw (own_has ps e es k j alike s q, or_true (is_optional (form_of e)), ih)

-- the line, as the entries walk along it
abbrev pub part_at : ℕ → List (List ℕ) → ℕ → ℕ → List ℕ
part_at f fs k j = cond (is_dropped f) [] (cond (eqb f further_flag) (said_at f fs k j) (0x09 ∷ said_at f fs k j))

abbrev pub line_from : List (List ℕ) → List (List ℕ) → ℕ → ℕ → List ℕ
line_from fs [] k j = []
line_from fs (e ∷ es) k j = part_at (form_of e) fs k j ++ line_from fs es (field_after (form_of e) k) (digit_after (form_of e) j)

module _ (fs : List (List ℕ)) (end : List ℕ) where
  part_is : (f : ℕ) (n : List ℕ) (ps : List (List ℕ)) (k j : ℕ) → (is_dropped f ≡ false → told f n ps ≡ said_at f fs k j)
      → part f n ps ≡ part_at f fs k j
  part_is f n ps k j h = go (is_dropped f) refl
    where
      go : (t : Bool) → is_dropped f ≡ t → cond t [] (cond (eqb f further_flag) (told f n ps) (0x09 ∷ told f n ps))
          ≡ cond t [] (cond (eqb f further_flag) (said_at f fs k j) (0x09 ∷ said_at f fs k j))
      go true q = refl
      go false q = rw (h q)

  pub fields_are : (ps es : List (List ℕ)) (k j : ℕ) → Alike fs end ps es k j → sound es ≡ true → fitting fs es k j ≡ true
      → fields_of es ps ≡ line_from fs es k j
  fields_are ps [] k j alike s f = refl
  fields_are ps (e ∷ es) k j alike s f =
      let here : part (form_of e) (name_of e) ps ≡ part_at (form_of e) fs k j = part_is (form_of e) (name_of e) ps k j (go (is_absent (form_of e) fs k) refl) in
      let on : fields_of es ps ≡ line_from fs es (field_after (form_of e) k) (digit_after (form_of e) j) =
      fields_are ps es (field_after (form_of e) k) (digit_after (form_of e) j) (alike_next fs end ps e es k j alike s) (sound_rest e es s)
      (and_right (fits_at (form_of e) fs k j) (fitting fs es (field_after (form_of e) k) (digit_after (form_of e) j)) f) in
      rw (here, on)
    where
      go : (t : Bool) → is_absent (form_of e) fs k ≡ t → is_dropped (form_of e) ≡ false → told (form_of e) (name_of e) ps ≡ said_at (form_of e) fs k j
      go true q n = rw (own_not fs end ps e es k j alike s q) (absent_says fs k j (form_of e) q)
      go false q n =
          let r : Reads (form_of e) fs k j =
          reads_form fs k j (form_of e)
          (and_left (fits_at (form_of e) fs k j) (fitting fs es (field_after (form_of e) k) (digit_after (form_of e) j)) f) q in
          rw (own_has fs end ps e es k j alike s q, own_value fs end ps e es k j alike s q) (r.tells n)
