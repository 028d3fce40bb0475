-- X15 (docs/RULES.md): a text that is accepted and in plain form, to XML and back, is the same bytes; what XML says, to text and back, is the same text.
-- Assumes nothing.
use mathlib.Core.Path.{◌≡◌, refl, ap, ◌∙◌}
use mathlib.Core.Bool.{Bool, true, false, cond, not}
use mathlib.Core.List.{List, [], ◌∷◌, ◌++◌}
use Prim.Native.Nat.{ℕ, suc, ◌+◌, ◌≤◌}
use native.Mathlib.Omega.{arith}
use lib.Dec.{eqb, ltb}
use lib.ListN.{length, drop}
use borrow.Author.Tests.{eqb-true, leb-true, ltb-false, eq-eqb}
use Rattle.text.specs.Text.{lines, fields}
use Rattle.text.specs.Print.{joined}
use Rattle.text.specs.Place.{kind_of}
use Rattle.text.specs.Judge.{judge}
use Rattle.text.proofs.Printing.{joined-split}
use Rattle.text.proofs.Passing.{kind_byte}
use Rattle.text.proofs.Tests.{or_left, or_right}
use Rattle.text.proofs.Reading.{accepted_line, accepted-lines}
use Rattle.frame_text.specs.Form.{Record, frequency, base, header, param, validation, set, entry, form}
use Rattle.frame_text.specs.Rules.{rules, verdict, owner, over, lost, inside, holds_params}
use Rattle.plain_form.specs.PlainForm.{stands, farther, misplaced, out_of_order, is_plain}
use Rattle.xml_schema.specs.Schema.{elements, table, has_line}
use Rattle.xml_tags.specs.Tags.{chunks, tag_of}
use Rattle.xml_tags.specs.declared.Tag.TheVariants.{Open}
use Rattle.xml_tags.proofs.Chunks.{chunks_some}
use Rattle.xml_document.specs.Document as document
use Rattle.xml_document.specs.Document.{letter, owns, owned, arranged, ended, text_of, start, declared, is_declaration}
use Rattle.xml_plain.proofs.Plain.{text-plain}
use Rattle.xml_elements.specs.Elements.{body, opening, xml_of}
use Rattle.xml_laws.proofs.Tags.{chunk_of}
use Rattle.xml_laws.proofs.Document.{Says, one_more}
use Rattle.xml_laws.proofs.Body.{View, view_of, Step, step_of, far_of, in_header}
use Rattle.xml_laws.proofs.Body.{Kept, front, says-body, set_of_lem, from_of, not_false, not_three, ordered_line}
use Rattle.xml_laws.proofs.Plain.{Ordered, ordered-none, ordered_f, ordered-b, ordered_h, ordered_d, ordered_p, ordered_v, ordered_e}
use Rattle.std.specs.Prelude.{None, Ok}

-- ---- the lines of a text in plain form
letter_of_lem : (l : List ℕ) (k : ℕ) → kind_of (fields l) ≡ k → (k ≡ 0 → ⊥) → letter l ≡ k
letter_of_lem l k e n = (kind_byte l k e n).0

header-far : (before : List Record) → Kept before → owner before ≡ 0x48 → (2 ≤ far_of before) × (far_of before ≤ 3)
header-far [] k o = absurd (omega arith)
header-far (frequency code key ∷ rs) k o = absurd (omega arith)
header-far (base key ∷ rs) k o = absurd (omega arith)
header-far (header h ∷ rs) k o = (omega arith, omega arith)
header-far (param p ∷ rs) k o = rw (eq-eqb (owner rs) 0x48 o) (omega arith, omega arith)
header-far (validation path value ∷ rs) k o = (omega arith, omega arith)
header-far (set name ∷ rs) k o = absurd (omega arith)
header-far (entry key text ∷ rs) k o = absurd (omega (arith, k, o))

two_or_one : (b : Bool) → (1 ≤ cond b 2 1) × (cond b 2 1 ≤ 2)
two_or_one true = (omega arith, omega arith)
two_or_one false = (omega arith, omega arith)

ordered_step : (before : List Record) (r : Record) (l : List ℕ) (g : List (List ℕ)) → Kept before → View (fields l) r → over before r ≡ false
    → lost before r ≡ false
    → stands (far_of before) (kind_of (fields l)) ≡ true → Ordered (far_of (r ∷ before)) g → Ordered (far_of before) (l ∷ g)
ordered_step before (frequency code key) l g kept v o s t h =
    let z : far_of before ≡ 0 = eqb-true (far_of before) 0 (rw v.0 at t) in
    rw z (ordered_f l g (letter_of_lem l 0x46 v.0 (λ e. omega arith)) h)
ordered_step before (base key) l g kept v o s t h =
    ordered-b l g (letter_of_lem l 0x42 v.0 (λ e. omega arith)) (far_of before) (leb-true (far_of before) 1 (rw v.0 at t)) h
ordered_step before (header hd) l g kept v o s t h =
    ordered_h l g (letter_of_lem l 0x48 v.0 (λ e. omega arith)) (far_of before) (leb-true (far_of before) 3 (rw v.0 at t)) h
ordered_step before (param p) l g kept v o s t h =
    let low : p.level ≤ 7 = ltb-false 7 p.level (or_left (ltb 7 p.level) _ o) in
    let holds : holds_params before ≡ true = not_false (holds_params before) (or_left (not (holds_params before)) _ s) in
    let ins : inside p.level before ≡ true =
    not_false (inside p.level before) (or_left (not (inside p.level before)) _ (or_right (not (holds_params before)) _ s)) in
    let f : far_of before ≡ cond (in_header before) 2 1 =
    (from_of before p.level kept low holds ins (not_three (far_of before) (rw v.0 at t))).far in
    rw f
    (ordered_p l g (letter_of_lem l 0x50 v.0 (λ e. omega arith)) (cond (in_header before) 2 1) (two_or_one (in_header before)).0
    (two_or_one (in_header before)).1 h)
ordered_step before (validation path value) l g kept v o s t h =
    let own : owner before ≡ 0x48 = eqb-true (owner before) 0x48 (not_false (eqb (owner before) 0x48) s) in
    let f : (2 ≤ far_of before) × (far_of before ≤ 3) = header-far before kept own in
    ordered_v l g (letter_of_lem l 0x56 v.0 (λ e. omega arith)) (far_of before) f.0 f.1 h
ordered_step before (set name) l g kept v o s t h = ordered_d l g (letter_of_lem l 0x44 v.0 (λ e. omega arith)) (far_of before) h
ordered_step before (entry key text) l g kept v o s t h =
    let own : owner before ≡ 0x44 = eqb-true (owner before) 0x44 (not_false (eqb (owner before) 0x44) s) in
    rw (set_of_lem before kept own).1 (ordered_e l g (letter_of_lem l 0x45 v.0 (λ e. omega arith)) h)

ordered-lines : (before : List Record) (n m : ℕ) (ls : List (List ℕ)) → Kept before → judge rules before n ls ≡ Ok tt
    → misplaced (far_of before) (suc m) ls ≡ 0
    → Ordered (far_of before) (front ls)
ordered-lines before n m [] kept good ordered = ordered-none (far_of before)
ordered-lines before n m (l ∷ []) kept good ordered = ordered-none (far_of before)
ordered-lines before n m (l ∷ k ∷ ks) kept good ordered =
    let a = accepted_line rules before n (form (fields l)) _ good in
    let o : (stands (far_of before) (kind_of (fields l)) ≡ true)
    × (misplaced (farther (far_of before) (kind_of (fields l))) (suc (suc m)) (k ∷ ks) ≡ 0) =
    ordered_line (stands (far_of before) (kind_of (fields l))) (misplaced (farther (far_of before) (kind_of (fields l))) (suc (suc m)) (k ∷ ks)) m ordered in
    let v : View (fields l) a.said = view_of (fields l) a.said a.is in
    let s : Step before a.said (fields l) l = step_of before kept (fields l) l (joined-split 0x09 l) a.said v a.within a.owned o.0 in
    ordered_step before a.said l (front (k ∷ ks)) kept v a.within a.owned o.0
    (ordered-lines (a.said ∷ before) (suc n) (suc m) (k ∷ ks) s.kept a.on (rw s.far at o.1))

-- the first line owns what follows
first-owns : (r : Record) (l : List ℕ) → View (fields l) r → lost [] r ≡ false → owns (letter l) ≡ true
first-owns (frequency code key) l v s = rw (letter_of_lem l 0x46 v.0 (λ e. omega arith))
first-owns (base key) l v s = rw (letter_of_lem l 0x42 v.0 (λ e. omega arith))
first-owns (header h) l v s = rw (letter_of_lem l 0x48 v.0 (λ e. omega arith))
first-owns (param p) l v s = absurd (let z : ◌≡◌ {A = ℕ} 0 1 = cc in omega arith)
first-owns (validation path value) l v s = absurd (let z : ◌≡◌ {A = ℕ} 0 1 = cc in omega arith)
first-owns (set name) l v s = rw (letter_of_lem l 0x44 v.0 (λ e. omega arith))
first-owns (entry key text) l v s = absurd (let z : ◌≡◌ {A = ℕ} 0 1 = cc in omega arith)

none_owned : (n : ℕ) (ls : List (List ℕ)) → judge rules [] n ls ≡ Ok tt → owned (front ls) ≡ []
none_owned n [] good = refl
none_owned n (l ∷ []) good = refl
none_owned n (l ∷ k ∷ ks) good =
    let a = accepted_line rules [] n (form (fields l)) _ good in
    rw (first-owns a.said l (view_of (fields l) a.said a.is) a.owned)

pub lines-arranged : (n : ℕ) (ls : List (List ℕ)) → judge rules [] n ls ≡ Ok tt → misplaced 0 1 ls ≡ 0 → arranged (front ls) ≡ front ls
lines-arranged n ls good ordered = rw (none_owned n ls good) at (ordered-lines [] n 0 ls tt good ordered).whole

-- the lines of an accepted text, ended, are the text
lines-ended : (before : List Record) (n : ℕ) (ls : List (List ℕ)) → judge rules before n ls ≡ Ok tt → ended (front ls) ≡ joined 0x0a ls
lines-ended before n [] good = refl
lines-ended before n ([] ∷ []) good = refl
lines-ended before n ((x ∷ xs) ∷ []) good = absurd (let z : ◌≡◌ {A = ℕ} 0 1 = cc in omega arith)
lines-ended before n (l ∷ k ∷ ks) good =
    let a = accepted_line rules before n (form (fields l)) _ good in
    ap (λ (m : List ℕ). l ++ 0x0a ∷ m) (lines-ended (a.said ∷ before) (suc n) (k ∷ ks) a.on)

-- ---- the document
-- `<?xml version="1.0" encoding="utf-8"?` and `<FrameDefinition`
abbrev declaration : List ℕ
declaration = 0x3c ∷ 0x3f ∷ 0x78 ∷ 0x6d ∷ 0x6c ∷ 0x20 ∷ 0x76 ∷ 0x65 ∷ 0x72 ∷ 0x73 ∷ 0x69 ∷ 0x6f ∷ 0x6e ∷ 0x3d ∷ 0x22
    ∷ 0x31 ∷ 0x2e ∷ 0x30 ∷ 0x22
    ∷ 0x20 ∷ 0x65 ∷ 0x6e ∷ 0x63 ∷ 0x6f ∷ 0x64 ∷ 0x69 ∷ 0x6e ∷ 0x67 ∷ 0x3d ∷ 0x22 ∷ 0x75 ∷ 0x74 ∷ 0x66 ∷ 0x2d ∷ 0x38
    ∷ 0x22 ∷ 0x3f ∷ []

abbrev root_tag : List ℕ
root_tag = 0x0a ∷ 0x3c ∷ 0x46 ∷ 0x72 ∷ 0x61 ∷ 0x6d ∷ 0x65 ∷ 0x44 ∷ 0x65 ∷ 0x66 ∷ 0x69 ∷ 0x6e ∷ 0x69 ∷ 0x74 ∷ 0x69 ∷ 0x6f
    ∷ 0x6e ∷ []

root_tag_lem : tag_of root_tag ≡ Open 0
unfolding elements table
root_tag_lem = refl

root_line : has_line 0 ≡ false
unfolding table
root_line = refl

module _ (t : List ℕ) where
  abbrev rest : List ℕ
  rest = root_tag ++ 0x3e ∷ (0x0a ∷ body 0 (lines t))

  shape : xml_of t ≡ declaration ++ 0x3e ∷ (root_tag ++ 0x3e ∷ (0x0a ∷ body 0 (lines t)))
  unfolding opening
  shape = refl

  declared_one : (c : List ℕ) (cs : List (List ℕ)) → is_declaration c ≡ true → 1 ≤ length cs → declared (c ∷ cs) ≡ length c + 1
  declared_one c [] i h = absurd (omega arith)
  declared_one c (e ∷ cs) i h = rw i

  start_is : start (xml_of t) ≡ length declaration + 1
  start_is =
      ap start shape ∙ ap declared (chunk_of false declaration rest refl) ∙ declared_one declaration (chunks false rest) refl (chunks_some false rest)

  behind : drop (start (xml_of t)) (xml_of t) ≡ rest
  behind = ap (λ (n : ℕ). drop n (xml_of t)) start_is ∙ ap (drop (length declaration + 1)) shape

  root-says : (ls : List (List ℕ)) → Says 0 (0x0a ∷ body 0 (lines t)) ls → Says 13 rest ls
  root-says ls s = one_more 13 0 root_tag (0x0a ∷ body 0 (lines t)) ls ls refl (rw root_tag_lem) (λ e. omega arith) (rw (root_tag_lem, root_line)) s

  module _ (good : verdict t ≡ Ok tt) (plain : is_plain t ≡ true) where
    judged : judge rules [] 1 (lines t) ≡ Ok tt
    judged = accepted-lines rules t good

    ordered : misplaced 0 1 (lines t) ≡ 0
    ordered = eqb-true (out_of_order t) 0 plain

    says : Says 13 rest (front (lines t))
    says = root-says (front (lines t)) (says-body [] 1 0 (lines t) tt judged ordered)

    -- X15: the XML that is written is within what is read
    pub xml_fine : document.verdict (xml_of t) ≡ None
    xml_fine = ap (λ (x : List ℕ). document.judge 13 (start (xml_of t)) (chunks false x)) behind ∙ says.fine (start (xml_of t))

    -- X15: and says the text
    pub text_xml_text : text_of (xml_of t) ≡ t
    text_xml_text =
        ap (λ (x : List ℕ). ended (arranged (document.items 13 (chunks false x)))) behind
        ∙ ap (λ (ls : List (List ℕ)). ended (arranged ls)) says.lines
        ∙ ap ended (lines-arranged 1 (lines t) judged ordered)
        ∙ lines-ended [] 1 (lines t) judged
        ∙ joined-split 0x0a t

-- X15: XML that is read and whose text is accepted, to text and to XML again, says the same text, and has no fault
module _ (x : List ℕ) (fine : document.verdict x ≡ None) (good : verdict (text_of x) ≡ Ok tt) where
  pub xml_text_xml : text_of (xml_of (text_of x)) ≡ text_of x
  xml_text_xml = text_xml_text (text_of x) good (text-plain x fine)

  pub again-fine : document.verdict (xml_of (text_of x)) ≡ None
  again-fine = xml_fine (text_of x) good (text-plain x fine)
