-- X8 (docs/RULES.md): the place of a fault is inside the document, or its end. Assumes nothing.
use mathlib.Core.Path.{◌≡◌, refl, sym, ap, ◌∙◌}
use mathlib.Core.Bool.{Bool, true, false, cond, ◌&&◌}
use mathlib.Core.List.{List, [], ◌∷◌, ◌++◌}
use Prim.Native.Nat.{ℕ, suc, ◌+◌, ◌-◌, ◌≤◌}
use native.Mathlib.Omega.{arith}
use lib.Dec.{eqb, ltb}
use borrow.Author.Tests.{eqb-true}
use lib.ListN.{length, get_or, drop, length-append, length-drop}
use Rattle.text.specs.Text.{split}
use Rattle.text.specs.Print.{joined}
use Rattle.text.proofs.Printing.{joined-split}
use Rattle.xml_schema.specs.Schema.{count, element_of, entries_of, form_in, nowhere, before, behind}
use Rattle.xml_values.specs.Scan.{is_white, is_letter, lead, skip, white, word_len, word, after}
use Rattle.xml_values.specs.Values.{valid}
use Rattle.xml_tags.specs.Tags.{stops, turn, placed, chunks, name_in, is_end, is_new, fault, whole, unless, judged, opened, shutting, tag_from, tag_of}
use Rattle.xml_tags.specs.Steps.{UpTo, Inside}
use Rattle.xml_tags.specs.declared.Tag.{Tag}
use Rattle.xml_tags.specs.declared.Tag.TheVariants.{Bad, Shut, Open}
use Rattle.xml_tags.proofs.Chunks.{chunks_some}
use Rattle.xml_document.specs.Document.{moved, fault_at, judge, is_declaration, declared, start, verdict}
use Rattle.std.specs.Prelude.{Option, Some, None}

-- ---- a place that is inside stays inside
more : (m n : ℕ) (f : Option ℕ) → m ≤ n → UpTo m f → UpTo n f
more m n None h u = tt
more m n (Some p) h u = omega arith

within : (m n : ℕ) (t : Tag) → m ≤ n → Inside m t → Inside n t
within m n (Bad p) h u = omega arith
within m n (Shut k) h u = tt
within m n (Open k) h u = tt

-- pieces that are joined by a byte
two_long : (b : ℕ) (p q : List ℕ) (ps : List (List ℕ)) → length (joined b (p ∷ q ∷ ps)) ≡ length p + 1 + length (joined b (q ∷ ps))
two_long b p q ps = let e : length (p ++ b ∷ joined b (q ∷ ps))
    ≡ length p + length (b ∷ joined b (q ∷ ps)) = length-append p (b ∷ joined b (q ∷ ps)) in omega arith

-- ---- among attributes
fault-inside : (es : List (List ℕ)) (place : ℕ) (ps : List (List ℕ)) → UpTo (place + length (joined 34 ps)) (fault es place ps)
fault-inside es place [] = omega arith
fault-inside es place (t ∷ []) = by (is_end t)
  where
    by : (b : Bool) → UpTo (place + length t) (cond b None (Some place))
    by true = tt
    by false = omega arith
fault-inside es place (p ∷ v ∷ []) = omega arith
fault-inside es place (p ∷ v ∷ q ∷ ps) =
    by (is_new es p (q ∷ ps)) (valid (form_in es (name_in p)) v) (fault-inside es (place + length p + length v + 2) (q ∷ ps))
  where
    long : length (joined 34 (p ∷ v ∷ q ∷ ps)) ≡ length p + 1 + (length v + 1 + length (joined 34 (q ∷ ps)))
    long = two_long 34 p v (q ∷ ps) ∙ ap (λ n. length p + 1 + n) (two_long 34 v q ps)

    by : (a b : Bool) → UpTo (place + length p + length v + 2 + length (joined 34 (q ∷ ps))) (fault es (place + length p + length v + 2) (q ∷ ps))
        → UpTo (place + length (joined 34 (p ∷ v ∷ q ∷ ps)))
        (cond a (cond b (fault es (place + length p + length v + 2) (q ∷ ps)) (Some (place + length p + 1))) (Some place))
    by true true u =
        more (place + length p + length v + 2 + length (joined 34 (q ∷ ps))) (place + length (joined 34 (p ∷ v ∷ q ∷ ps)))
        (fault es (place + length p + length v + 2) (q ∷ ps)) (omega (arith, long)) u
    by true false u = omega (arith, long)
    by false b u = omega arith

-- ---- in a tag
lead-inside : (l : List ℕ) → lead l ≤ length l
lead-inside [] = omega arith
lead-inside (x ∷ xs) = by (is_white x) (lead-inside xs)
  where
    by : (b : Bool) → lead xs ≤ length xs → cond b (suc (lead xs)) 0 ≤ suc (length xs)
    by true h = omega arith
    by false h = omega arith

word-inside : (l : List ℕ) → word_len l ≤ length l
word-inside [] = omega arith
word-inside (x ∷ xs) = by (is_letter x) (word-inside xs)
  where
    by : (b : Bool) → word_len xs ≤ length xs → cond b (suc (word_len xs)) 0 ≤ suc (length xs)
    by true h = omega arith
    by false h = omega arith

judged-inside : (k : ℕ) (es : List (List ℕ)) (place inside : ℕ) (ps : List (List ℕ)) (m : ℕ) → place ≤ m → UpTo m (fault es inside ps)
    → Inside m (judged k es place inside ps)
judged-inside k es place inside ps m h u = by (fault es inside ps) (whole es ps) u
  where
    by : (f : Option ℕ) (b : Bool) → UpTo m f → Inside m (unless f (cond b (Open k) (Bad place)))
    by None true u = tt
    by None false u = h
    by (Some n) b u = u

opened_inside : (place : ℕ) (l : List ℕ) → Inside (place + 1 + length l) (opened place l)
opened_inside place l = by (ltb (element_of (word l)) count)
  where
    found : UpTo (place + 1 + length l) (fault (entries_of (element_of (word l))) (place + 1 + word_len l) (split 34 (after l)))
    found =
        let e : length (joined 34 (split 34 (after l))) ≡ length l - word_len l = ap length (joined-split 34 (after l)) ∙ length-drop (word_len l) l in
        more (place + 1 + word_len l + length (joined 34 (split 34 (after l)))) (place + 1 + length l)
        (fault (entries_of (element_of (word l))) (place + 1 + word_len l) (split 34 (after l))) (omega (arith, word-inside l))
        (fault-inside (entries_of (element_of (word l))) (place + 1 + word_len l) (split 34 (after l)))

    by : (b : Bool)
        → Inside (place + 1 + length l)
        (cond b (judged (element_of (word l)) (entries_of (element_of (word l))) place (place + 1 + word_len l) (split 34 (after l))) (Bad place))
    by true =
        judged-inside (element_of (word l)) (entries_of (element_of (word l))) place (place + 1 + word_len l) (split 34 (after l)) (place + 1 + length l)
        (omega arith)
        found
    by false = omega arith

shutting-inside : (place m : ℕ) (l : List ℕ) → place ≤ m → Inside m (shutting place l)
shutting-inside place m l h = by (ltb (element_of (word l)) count && white (after l))
  where
    by : (b : Bool) → Inside m (cond b (Shut (element_of (word l))) (Bad place))
    by true = tt
    by false = h

from-inside : (place : ℕ) (s : List ℕ) → Inside (place + length s) (tag_from place s)
from-inside place [] = omega arith
from-inside place (x ∷ xs) = by (eqb x 60) (eqb (get_or xs 0 0) 47)
  where
    by : (a b : Bool) → Inside (place + suc (length xs)) (cond a (cond b (shutting place (drop 1 xs)) (opened place xs)) (Bad place))
    by true true = shutting-inside place (place + suc (length xs)) (drop 1 xs) (omega arith)
    by true false = within (place + 1 + length xs) (place + suc (length xs)) (opened place xs) (omega arith) (opened_inside place xs)
    by false b = omega arith

tag_inside : (c : List ℕ) → Inside (length c) (tag_of c)
tag_inside c =
    within (lead c + length (skip c)) (length c) (tag_of c) (omega (arith, lead-inside c, length-drop (lead c) c)) (from-inside (lead c) (skip c))

-- ---- in a document
placed-joined : (b : Bool) (x : ℕ) (ps : List (List ℕ)) → 1 ≤ length ps → (b ≡ true → x ≡ 62)
    → joined 62 (placed b x ps) ≡ x ∷ joined 62 ps
placed-joined b x [] h q = absurd (omega arith)
placed-joined true x (p ∷ ps) h q = ap (λ y. y ∷ joined 62 (p ∷ ps)) (sym (q refl))
placed-joined false x (p ∷ []) h q = refl
placed-joined false x (p ∷ r ∷ ps) h q = refl

chunks-joined : (q : Bool) (x : List ℕ) → joined 62 (chunks q x) ≡ x
chunks-joined q [] = refl
chunks-joined q (x ∷ xs) =
    placed-joined (stops q x) x (chunks (turn q x) xs) (chunks_some (turn q x) xs) (stops_is q)
    ∙ ap (λ l. x ∷ l) (chunks-joined (turn q x) xs)
  where
    stops_is : (q : Bool) → stops q x ≡ true → x ≡ 62
    stops_is true e = absurd (let z : ◌≡◌ {A = ℕ} 0 1 = cc in omega arith)
    stops_is false e = eqb-true x 62 e

judge-inside : (d place : ℕ) (cs : List (List ℕ)) → UpTo (place + length (joined 62 cs)) (judge d place cs)
judge-inside d place [] = omega arith
judge-inside d place (c ∷ []) = by (eqb d behind && eqb (lead c) (length c))
  where
    by : (b : Bool) → UpTo (place + length c) (cond b None (Some (place + lead c)))
    by true = tt
    by false = omega (arith, lead-inside c)
judge-inside d place (c ∷ e ∷ cs) = by (eqb (moved d c (tag_of c)) nowhere) (judge-inside (moved d c (tag_of c)) (place + length c + 1) (e ∷ cs))
  where
    tag_at : (t : Tag) → Inside (length c) t → fault_at place c t ≤ place + length c
    tag_at (Bad n) i = omega arith
    tag_at (Shut k) i = omega (arith, lead-inside c)
    tag_at (Open k) i = omega (arith, lead-inside c)

    by : (b : Bool) → UpTo (place + length c + 1 + length (joined 62 (e ∷ cs))) (judge (moved d c (tag_of c)) (place + length c + 1) (e ∷ cs))
        → UpTo (place + length (joined 62 (c ∷ e ∷ cs)))
        (cond b (Some (fault_at place c (tag_of c))) (judge (moved d c (tag_of c)) (place + length c + 1) (e ∷ cs)))
    by true u = omega (arith, tag_at (tag_of c) (tag_inside c), two_long 62 c e cs)
    by false u =
        more (place + length c + 1 + length (joined 62 (e ∷ cs))) (place + length (joined 62 (c ∷ e ∷ cs)))
        (judge (moved d c (tag_of c)) (place + length c + 1) (e ∷ cs)) (omega (arith, two_long 62 c e cs)) u

declared-inside : (cs : List (List ℕ)) → declared cs ≤ length (joined 62 cs)
declared-inside [] = omega arith
declared-inside (c ∷ []) = omega arith
declared-inside (c ∷ e ∷ cs) = by (is_declaration c)
  where
    by : (b : Bool) → cond b (length c + 1) 0 ≤ length (joined 62 (c ∷ e ∷ cs))
    by true = omega (arith, two_long 62 c e cs)
    by false = omega arith

-- X8: the place that refusal 14 carries is at most the document's length
pub place_inside : (x : List ℕ) → UpTo (length x) (verdict x)
place_inside x =
    let s : start x ≤ length x = rw (chunks-joined false x) at (declared-inside (chunks false x)) in
    let l : length (joined 62 (chunks false (drop (start x) x))) ≡ length x - start x = ap length (chunks-joined false (drop (start x) x))
    ∙ length-drop (start x) x in
    more (start x + length (joined 62 (chunks false (drop (start x) x)))) (length x) (verdict x) (omega arith)
    (judge-inside before (start x) (chunks false (drop (start x) x)))
