-- Laws on tags: those that are written for lines are read, and ends are ends. Assumes nothing.
use mathlib.Core.Path.{◌≡◌, refl, sym, ap, ◌∙◌}
use mathlib.Core.Bool.{Bool, true, false, cond, not, ◌&&◌}
use mathlib.Core.List.{List, [], ◌∷◌, ◌++◌, append_assoc, append-nil}
use Prim.Native.Nat.{ℕ, zero, suc, ◌+◌, ◌≤◌, ◌<◌}
use native.Mathlib.Omega.{arith}
use lib.Dec.{eqb, leb, ltb}
use lib.ListN.{length, get_or, take, drop}
use borrow.Author.Tests.{leb-true, ne_eqb}
use Rattle.laws.proofs.Bools.{and_left, and_right}
use Rattle.text.specs.Text.{split, without}
use Rattle.xml_schema.specs.Schema.{elements, table, count, element_of, entries_of}
use Rattle.xml_values.specs.Scan.{lead, skip, is_letter, word_len, word, after}
use Rattle.xml_tags.specs.Tags.{stops, turn, chunks, is_end, tag_of, pieces_of, last, closed}
use Rattle.xml_tags.specs.Tags.{fields_of}
use Rattle.xml_tags.specs.declared.Tag.TheVariants.{Shut, Open}
use Rattle.xml_attributes.specs.Attributes.{value_for, is_absent, label, attribute, field_after, digit_after, attributes}
use Rattle.xml_elements.specs.Elements.{name_for, blanks, head}
use Rattle.xml_laws.proofs.Values.{not_is}
use Rattle.xml_laws.proofs.Attributes.{letters, word_is, after_is, sound, agreeing, fitting, pieces, pieces_are, fault-none, alike-start, whole_is}
use Rattle.xml_laws.proofs.Attributes.{fields_are, line_from, Reads, reads_form, fits_at, drop_front, sound_name, sound_rest}
use Rattle.xml_schema.specs.Schema.{form_of, name_of}

-- ---- the elements that have a line, and the root
pub record Element (k : ℕ) : Type 0 where
  pub named : letters (name_for k) ≡ true
  pub some_name : 1 ≤ length (name_for k)
  pub number : element_of (name_for k) ≡ k
  pub few : ltb k count ≡ true
  pub entries : sound (entries_of k) ≡ true
  pub agree : agreeing (entries_of k) (entries_of k) ≡ true

pub element_is : (k : ℕ) → k < 8 → Element k
unfolding elements table
element_is zero h = record { named = refl; some_name = omega arith; number = refl; few = refl; entries = refl; agree = refl }
element_is (suc zero) h = record { named = refl; some_name = omega arith; number = refl; few = refl; entries = refl; agree = refl }
element_is (suc (suc zero)) h = record { named = refl; some_name = omega arith; number = refl; few = refl; entries = refl; agree = refl }
element_is (suc (suc (suc zero))) h = record { named = refl; some_name = omega arith; number = refl; few = refl; entries = refl; agree = refl }
element_is (suc (suc (suc (suc zero)))) h = record { named = refl; some_name = omega arith; number = refl; few = refl; entries = refl; agree = refl }
element_is (suc (suc (suc (suc (suc zero))))) h = record { named = refl; some_name = omega arith; number = refl; few = refl; entries = refl; agree = refl }
element_is (suc (suc (suc (suc (suc (suc zero)))))) h = record {
  named = refl;
  some_name = omega arith;
  number = refl;
  few = refl;
  entries = refl;
  agree =
      refl;
}
element_is (suc (suc (suc (suc (suc (suc (suc zero))))))) h =
    record { named = refl; some_name = omega arith; number = refl; few = refl; entries = refl; agree = refl }
element_is (suc (suc (suc (suc (suc (suc (suc (suc k)))))))) h = absurd (omega arith)

-- ---- spaces before a tag
lead-blanks : (n : ℕ) (s : List ℕ) → lead s ≡ 0 → lead (blanks n ++ s) ≡ length (blanks n)
unfolding blanks
lead-blanks zero s e = e
lead-blanks (suc n) s e = ap (λ (m : ℕ). suc (suc m)) (lead-blanks n s e)

skip-blanks : (n : ℕ) (s : List ℕ) → lead s ≡ 0 → skip (0x0a ∷ (blanks n ++ s)) ≡ s
skip-blanks n s e = rw (lead-blanks n s e) (drop_front (blanks n) s)

-- ---- an end
word-all : (n : List ℕ) → letters n ≡ true → word_len n ≡ length n
word-all [] l = refl
word-all (x ∷ xs) l = rw (and_left (is_letter x) (letters xs) l, word-all xs (and_right (is_letter x) (letters xs) l))

take_all : (l : List ℕ) → take (length l) l ≡ l
take_all [] = refl
take_all (x ∷ xs) = ap (λ (m : List ℕ). x ∷ m) (take_all xs)

drop_all : (l : List ℕ) → drop (length l) l ≡ []
drop_all [] = refl
drop_all (x ∷ xs) = drop_all xs

pub shut_tag : (n k : ℕ) → Element k → tag_of (0x0a ∷ head n (0x3c ∷ 0x2f ∷ []) k) ≡ Shut k
shut_tag n k e =
    rw (skip-blanks n (0x3c ∷ 0x2f ∷ name_for k) refl)
    (rw (word-all (name_for k) e.named, take_all (name_for k), drop_all (name_for k), e.number, e.few))

-- ---- what is no letter
abbrev tame : List ℕ → Bool
tame [] = true
tame (x ∷ xs) = not (is_letter x)

tame_attributes : (fs : List (List ℕ)) (end : List ℕ) (es : List (List ℕ)) (k j : ℕ) → tame end ≡ true
    → tame (attributes es fs k j ++ end) ≡ true
unfolding attributes
tame_attributes fs end [] k j t = t
tame_attributes fs end (e ∷ es) k j t = go (is_absent (form_of e) fs k) (tame_attributes fs end es (field_after (form_of e) k) (digit_after (form_of e) j) t)
  where
    go : (a : Bool) → tame (attributes es fs (field_after (form_of e) k) (digit_after (form_of e) j) ++ end) ≡ true
        → tame
        ((cond a [] (attribute (name_of e) (value_for (form_of e) fs k j)) ++ attributes es fs (field_after (form_of e) k)
        (digit_after (form_of e) j)) ++ end) ≡ true
    go true ih = ih
    go false ih = refl

word_tame : (n a : List ℕ) → letters n ≡ true → tame a ≡ true → (word (n ++ a) ≡ n) × (after (n ++ a) ≡ a)
word_tame n [] l t = (rw (append-nil n, word-all n l) (take_all n), rw (append-nil n, word-all n l) (drop_all n))
word_tame n (x ∷ xs) l t = (word_is n xs x l (not_is (is_letter x) t), after_is n xs x l (not_is (is_letter x) t))

first-letter : (n a : List ℕ) → letters n ≡ true → 1 ≤ length n → eqb (get_or (n ++ a) 0 0) 0x2f ≡ false
first-letter [] a l h = absurd (omega arith)
first-letter (x ∷ xs) a l h =
    let low : 0x41 ≤ x = leb-true 0x41 x (and_left (leb 0x41 x) _ (and_left (is_letter x) (letters xs) l)) in
    ne_eqb x 0x2f (λ q. omega arith)

-- ---- the start of an element
module _ (n k : ℕ) (e : Element k) (fs : List (List ℕ)) (first : ℕ) (end : List ℕ) (fits : fitting fs (entries_of k) first 1 ≡ true)
    (tame-end : tame end ≡ true) (is-end : is_end end ≡ true) (one : split 0x22 end ≡ end ∷ []) where
  abbrev tail : List ℕ
  tail = attributes (entries_of k) fs first 1 ++ end

  abbrev pub opening : List ℕ
  opening = 0x0a ∷ (blanks n ++ (0x3c ∷ (name_for k ++ (attributes (entries_of k) fs first 1 ++ end))))

  parts : (word (name_for k ++ tail) ≡ name_for k) × (after (name_for k ++ tail) ≡ tail)
  parts = word_tame (name_for k) tail e.named (tame_attributes fs end (entries_of k) first 1 tame-end)

  pieced : split 0x22 tail ≡ pieces fs end (entries_of k) first 1
  pieced = pieces_are fs end (entries_of k) first 1 e.entries fits one

  pub open_pieces : pieces_of opening ≡ pieces fs end (entries_of k) first 1
  open_pieces = rw (skip-blanks n (0x3c ∷ (name_for k ++ tail)) refl) (rw parts.1 pieced)

  pub open_tag : tag_of opening ≡ Open k
  open_tag =
      rw (skip-blanks n (0x3c ∷ (name_for k ++ tail)) refl, lead-blanks n (0x3c ∷ (name_for k ++ tail)) refl)
      (rw (first-letter (name_for k) tail e.named e.some_name)
      (rw (
        parts.0,
        parts.1,
        e.number,
        e.few,
        pieced,
        fault-none fs end (entries_of k) (entries_of k) first 1 (suc (length (blanks n)) + 1 + word_len (name_for k ++ tail)) e.entries fits e.agree is-end,
        whole_is fs end (pieces fs end (entries_of k) first 1) (entries_of k) first 1 (alike-start fs end (entries_of k) first 1) e.entries,
      )))

  pub open_fields : fields_of (entries_of k) (pieces_of opening) ≡ line_from fs (entries_of k) first 1
  open_fields =
      rw open_pieces
      (fields_are fs end (pieces fs end (entries_of k) first 1) (entries_of k) first 1 (alike-start fs end (entries_of k) first 1) e.entries fits)

-- ---- where a tag ends: no `>` stands in it outside quotes, and it ends outside them
abbrev pub quiet : Bool → List ℕ → Bool
quiet q [] = not q
quiet q (x ∷ xs) = not (stops q x) && quiet (turn q x) xs

-- such bytes are one tag
pub chunk_of : (q : Bool) (p rest : List ℕ) → quiet q p ≡ true → chunks q (p ++ 0x3e ∷ rest) ≡ p ∷ chunks false rest
chunk_of true [] rest e = absurd (let z : ◌≡◌ {A = ℕ} 0 1 = cc in omega arith)
chunk_of false [] rest e = refl
chunk_of q (x ∷ xs) rest e =
    rw (
      not_is (stops q x) (and_left (not (stops q x)) (quiet (turn q x) xs) e),
      chunk_of (turn q x) xs rest (and_right (not (stops q x)) (quiet (turn q x) xs) e),
    )

quiet_value : (v rest : List ℕ) → without 0x22 v ≡ true → quiet true (v ++ rest) ≡ quiet true rest
quiet_value [] rest e = refl
quiet_value (x ∷ xs) rest e =
    rw (not_is (eqb x 0x22) (and_left (not (eqb x 0x22)) (without 0x22 xs) e))
    (quiet_value xs rest (and_right (not (eqb x 0x22)) (without 0x22 xs) e))

quiet_letters : (n rest : List ℕ) → letters n ≡ true → quiet false (n ++ rest) ≡ quiet false rest
quiet_letters [] rest l = refl
quiet_letters (x ∷ xs) rest l =
    let low : 0x41 ≤ x = leb-true 0x41 x (and_left (leb 0x41 x) _ (and_left (is_letter x) (letters xs) l)) in
    rw (ne_eqb x 0x3e (λ q. omega arith), ne_eqb x 0x22 (λ q. omega arith)) (quiet_letters xs rest (and_right (is_letter x) (letters xs) l))

quiet_blanks : (n : ℕ) (rest : List ℕ) → quiet false (blanks n ++ rest) ≡ quiet false rest
unfolding blanks
quiet_blanks zero rest = refl
quiet_blanks (suc n) rest = quiet_blanks n rest

quiet_attribute : (n v rest : List ℕ) → letters n ≡ true → without 0x22 v ≡ true → quiet false (attribute n v ++ rest) ≡ quiet false rest
quiet_attribute n v rest l q =
    let shape : attribute n v ++ rest ≡ 0x20 ∷ (n ++ (0x3d ∷ 0x22 ∷ (v ++ 0x22 ∷ rest))) =
    append_assoc (label n) (v ++ (0x22 ∷ [])) rest ∙ rw (append_assoc v (0x22 ∷ []) rest)
    (ap (λ (l : List ℕ). 0x20 ∷ l) (append_assoc n (0x3d ∷ 0x22 ∷ []) (v ++ 0x22 ∷ rest))) in
    ap (quiet false) shape ∙ quiet_letters n (0x3d ∷ 0x22 ∷ (v ++ 0x22 ∷ rest)) l ∙ quiet_value v (0x22 ∷ rest) q

quiet_attributes : (fs : List (List ℕ)) (rest : List ℕ) (es : List (List ℕ)) (k j : ℕ) → sound es ≡ true → fitting fs es k j ≡ true
    → quiet false (attributes es fs k j ++ rest) ≡ quiet false rest
unfolding attributes
quiet_attributes fs rest [] k j s f = refl
quiet_attributes fs rest (e ∷ es) k j s f =
    go (is_absent (form_of e) fs k) refl
    (quiet_attributes fs rest es (field_after (form_of e) k) (digit_after (form_of e) j) (sound_rest e es s)
    (and_right (fits_at (form_of e) fs k j) (fitting fs es (field_after (form_of e) k) (digit_after (form_of e) j)) f))
  where
    go : (a : Bool) → is_absent (form_of e) fs k ≡ a
        → quiet false (attributes es fs (field_after (form_of e) k) (digit_after (form_of e) j) ++ rest) ≡ quiet false rest
        → quiet false
        ((cond a [] (attribute (name_of e) (value_for (form_of e) fs k j)) ++ attributes es fs (field_after (form_of e) k) (digit_after (form_of e) j)) ++ rest)
        ≡ quiet false rest
    go true q ih = ih
    go false q ih =
        let r : Reads (form_of e) fs k j =
        reads_form fs k j (form_of e)
        (and_left (fits_at (form_of e) fs k j) (fitting fs es (field_after (form_of e) k) (digit_after (form_of e) j)) f) q in
        ap (quiet false)
        (append_assoc (attribute (name_of e) (value_for (form_of e) fs k j)) (attributes es fs (field_after (form_of e) k) (digit_after (form_of e) j)) rest)
        ∙ quiet_attribute (name_of e) (value_for (form_of e) fs k j) (attributes es fs (field_after (form_of e) k) (digit_after (form_of e) j) ++ rest)
        (sound_name e es s) r.quiet
        ∙ ih

pub shut_quiet : (n k : ℕ) → Element k → quiet false (0x0a ∷ head n (0x3c ∷ 0x2f ∷ []) k) ≡ true
shut_quiet n k e =
    quiet_blanks n (0x3c ∷ 0x2f ∷ name_for k) ∙ ap (λ (l : List ℕ). quiet false l) (sym (append-nil (name_for k))) ∙ quiet_letters (name_for k) []
    e.named

pub open_quiet : (n k : ℕ) (e : Element k) (fs : List (List ℕ)) (first : ℕ) (end : List ℕ) → fitting fs (entries_of k) first 1 ≡ true
    → quiet false end ≡ true
    → quiet false (0x0a ∷ (blanks n ++ (0x3c ∷ (name_for k ++ (attributes (entries_of k) fs first 1 ++ end))))) ≡ true
open_quiet n k e fs first end f q =
    quiet_blanks n (0x3c ∷ (name_for k ++ (attributes (entries_of k) fs first 1 ++ end)))
    ∙ quiet_letters (name_for k) (attributes (entries_of k) fs first 1 ++ end) e.named
    ∙ quiet_attributes fs end (entries_of k) first 1 e.entries f
    ∙ q

-- ---- does a tag end its element
last-append : (l : List ℕ) (x : ℕ) (m : List ℕ) → last (l ++ x ∷ m) ≡ last (x ∷ m)
last-append [] x m = refl
last-append (y ∷ []) x m = refl
last-append (y ∷ z ∷ zs) x m = last-append (z ∷ zs) x m

pub open_closed : (front : List ℕ) → closed (front ++ (0x2f ∷ [])) ≡ true
open_closed front = rw (last-append front 0x2f [])

last-attribute : (l n v : List ℕ) → last (l ++ attribute n v) ≡ 0x22
last-attribute l n v =
    let shape : l ++ attribute n v ≡ (l ++ (label n ++ v)) ++ (0x22 ∷ []) =
    rw (append_assoc l (label n ++ v) (0x22 ∷ []), append_assoc (label n) v (0x22 ∷ [])) in
    ap last shape ∙ last-append (l ++ (label n ++ v)) 0x22 []

last-attributes : (fs : List (List ℕ)) (es : List (List ℕ)) (k j : ℕ) (l : List ℕ) → eqb (last l) 0x2f ≡ false
    → eqb (last (l ++ attributes es fs k j)) 0x2f ≡ false
unfolding attributes
last-attributes fs [] k j l h = rw (append-nil l) h
last-attributes fs (e ∷ es) k j l h =
    go (is_absent (form_of e) fs k) (λ (m : List ℕ) (q : eqb (last m) 0x2f ≡ false). last-attributes fs es (field_after (form_of e) k)
    (digit_after (form_of e) j) m q)
  where
    go : (a : Bool)
        → ((m : List ℕ) → eqb (last m) 0x2f ≡ false
        → eqb (last (m ++ attributes es fs (field_after (form_of e) k) (digit_after (form_of e) j))) 0x2f ≡ false)
        → eqb (last (l ++ (cond a [] (attribute (name_of e) (value_for (form_of e) fs k j)) ++ attributes es fs (field_after (form_of e) k)
        (digit_after (form_of e) j))))
        0x2f ≡ false
    go true ih = ih l h
    go false ih =
        ap (λ (m : List ℕ). eqb (last m) 0x2f)
        (sym (append_assoc l (attribute (name_of e) (value_for (form_of e) fs k j)) (attributes es fs (field_after (form_of e) k) (digit_after (form_of e) j))))
        ∙ ih (l ++ attribute (name_of e) (value_for (form_of e) fs k j)) (rw (last-attribute l (name_of e) (value_for (form_of e) fs k j)))

last_letter : (n : List ℕ) → letters n ≡ true → 1 ≤ length n → (l : List ℕ) → eqb (last (l ++ n)) 0x2f ≡ false
last_letter [] e h l = absurd (omega arith)
last_letter (x ∷ []) e h l =
    let low : 0x41 ≤ x = leb-true 0x41 x (and_left (leb 0x41 x) _ (and_left (is_letter x) true e)) in
    rw (last-append l x []) (ne_eqb x 0x2f (λ q. omega arith))
last_letter (x ∷ y ∷ ys) e h l =
    rw (last-append l x (y ∷ ys)) (last_letter (y ∷ ys) (and_right (is_letter x) (letters (y ∷ ys)) e) (omega arith) (x ∷ []))

pub open_left : (n k : ℕ) (e : Element k) (fs : List (List ℕ)) (first : ℕ)
    → closed (0x0a ∷ (blanks n ++ (0x3c ∷ (name_for k ++ (attributes (entries_of k) fs first 1 ++ []))))) ≡ false
open_left n k e fs first =
    let front : List ℕ = 0x0a ∷ (blanks n ++ (0x3c ∷ [])) in
    let shape : 0x0a ∷ (blanks n ++ (0x3c ∷ (name_for k ++ (attributes (entries_of k) fs first 1 ++ [])))) ≡ (front ++ name_for k) ++ attributes
    (entries_of k) fs first 1 =
    rw (append-nil (attributes (entries_of k) fs first 1), append_assoc front (name_for k) (attributes (entries_of k) fs first 1))
    (ap (λ (l : List ℕ). 0x0a ∷ l) (sym (append_assoc (blanks n) (0x3c ∷ []) (name_for k ++ attributes (entries_of k) fs first 1)))) in
    ap (λ (l : List ℕ). eqb (last l) 0x2f) shape
    ∙ last-attributes fs (entries_of k) first 1 (front ++ name_for k) (last_letter (name_for k) e.named e.some_name front)
