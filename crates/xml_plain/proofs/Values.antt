-- X5, X6 (docs/RULES.md): what a value says has no line end, if an attribute may have it. Assumes nothing.
use mathlib.Core.Path.{◌≡◌, refl}
use mathlib.Core.Bool.{Bool, true, false, cond, not, ◌&&◌, ◌||◌}
use mathlib.Core.List.{List, [], ◌∷◌, ◌++◌}
use Prim.Native.Nat.{ℕ, zero, suc, ◌+◌, ◌-◌, ◌%◌, ◌/◌}
use native.Mathlib.Omega.{arith}
use lib.Dec.{eqb, ltb, leb}
use lib.ListN.{length, drop}
use borrow.Author.Tests.{ne_eqb}
use Rattle.laws.proofs.Bools.{and_left, and_right}
use Rattle.text.specs.Text.{onto, split, within, without, same, missing}
use Rattle.text.specs.Scan.{cut}
use Rattle.text.specs.Print.{Every}
use Rattle.text.proofs.Printing.{clean_within}
use Rattle.numerals.specs.Numerals.{glyph, spelled}
use Rattle.xml_schema.specs.Schema.{words, optional_words, number, optional_number, hex_number, is_dropped}
use Rattle.xml_values.specs.Values.{entity, parts, plainly, undo, loose, is_words, unsigned, is_count, strip, numeral, is_numeral, in_decimal}
use Rattle.xml_values.specs.Values.{trues, falses, is_among, digit_for, valid, says, unsaid}
use Rattle.std.specs.Prelude.{Option, Some, None}

-- has l no line end
abbrev pub whole_line : List ℕ → Bool
whole_line l = without 10 l

-- ---- lists
pub both : (l m : List ℕ) → whole_line l ≡ true → whole_line m ≡ true → whole_line (l ++ m) ≡ true
both [] m p q = q
both (x ∷ xs) m p q = rw (and_left (not (eqb x 10)) (without 10 xs) p) (both xs m (and_right (not (eqb x 10)) (without 10 xs) p) q)

left_of : (n : ℕ) (l : List ℕ) → whole_line l ≡ true → whole_line (drop n l) ≡ true
left_of zero l p = p
left_of (suc n) [] p = p
left_of (suc n) (x ∷ xs) p = left_of n xs (and_right (not (eqb x 10)) (without 10 xs) p)

pieces : (b : ℕ) (l : List ℕ) → whole_line l ≡ true → Every (λ p. whole_line p ≡ true) (split b l)
pieces b [] p = (refl, tt)
pieces b (x ∷ xs) p = go (eqb x b) (split b xs) (pieces b xs (and_right (not (eqb x 10)) (without 10 xs) p))
  where
    here : not (eqb x 10) ≡ true
    here = and_left (not (eqb x 10)) (without 10 xs) p

    go : (t : Bool) (ps : List (List ℕ)) → Every (λ p. whole_line p ≡ true) ps → Every (λ p. whole_line p ≡ true) (cond t ([] ∷ ps) (onto x ps))
    go true ps e = (refl, e)
    go false [] e = (rw here, tt)
    go false (q ∷ qs) e = (rw here e.0, e.1)

-- ---- words
entity-other : (n : List ℕ) → eqb (entity n) 10 ≡ false
entity-other n =
    by (same n (0x61 ∷ 0x6d ∷ 0x70 ∷ [])) (same n (0x6c ∷ 0x74 ∷ [])) (same n (0x67 ∷ 0x74 ∷ []))
    (same n (0x71 ∷ 0x75 ∷ 0x6f ∷ 0x74 ∷ []))
    (same n (0x61 ∷ 0x70 ∷ 0x6f ∷ 0x73 ∷ []))
  where
    by : (a b c d e : Bool) → eqb (cond a 0x26 (cond b 0x3c (cond c 0x3e (cond d 0x22 (cond e 0x27 0))))) 10 ≡ false
    by true b c d e = refl
    by false true c d e = refl
    by false false true d e = refl
    by false false false true e = refl
    by false false false false true = refl
    by false false false false false = refl

parts_whole : (ps : List (List ℕ)) → Every (λ p. whole_line p ≡ true) ps → whole_line (parts ps) ≡ true
parts_whole [] e = refl
parts_whole (p ∷ ps) e = rw (entity-other _) (both (drop (cut 0x3b p + 1) p) (parts ps) (left_of (cut 0x3b p + 1) p e.0) (parts_whole ps e.1))

undo-whole : (v : List ℕ) → whole_line v ≡ true → whole_line (undo v) ≡ true
undo-whole v p = go (split 0x26 v) (pieces 0x26 v p)
  where
    go : (ps : List (List ℕ)) → Every (λ p. whole_line p ≡ true) ps → whole_line (plainly ps) ≡ true
    go [] e = refl
    go (f ∷ ps) e = both f (parts ps) e.0 (parts_whole ps e.1)

words-whole : (v : List ℕ) → is_words v ≡ true → whole_line (undo v) ≡ true
words-whole v p = undo-whole v (clean_within 0x20 0xff v (omega arith) (and_left (within 0x20 0xff v) (loose v) p)).end

-- ---- numbers
strip-whole : (l : List ℕ) → whole_line l ≡ true → whole_line (strip l) ≡ true
strip-whole [] p = p
strip-whole (x ∷ []) p = p
strip-whole (x ∷ y ∷ ys) p = by (eqb x 0x30) (strip-whole (y ∷ ys) (and_right (not (eqb x 10)) (without 10 (y ∷ ys)) p))
  where
    by : (b : Bool) → whole_line (strip (y ∷ ys)) ≡ true → whole_line (cond b (strip (y ∷ ys)) (x ∷ y ∷ ys)) ≡ true
    by true q = q
    by false q = p

count-whole : (v : List ℕ) → is_count v ≡ true → whole_line (strip (unsigned v)) ≡ true
count-whole v p =
    strip-whole (unsigned v)
    (clean_within 0x30 0x39 (unsigned v) (omega arith) (and_right (leb 1 (length (unsigned v))) (within 0x30 0x39 (unsigned v)) p)).end

glyph-other : (d : ℕ) → eqb (glyph 65 d) 10 ≡ false
glyph-other d = by (ltb d 10)
  where
    by : (b : Bool) → eqb (cond b (48 + d) (65 + (d - 10))) 10 ≡ false
    by true = ne_eqb (48 + d) 10 (λ e. omega arith)
    by false = ne_eqb (65 + (d - 10)) 10 (λ e. omega arith)

spelled-whole : (most base least n : ℕ) → whole_line (spelled base 65 most least n) ≡ true
unfolding spelled
spelled-whole zero base least n = refl
spelled-whole (suc most) base least n = by (eqb n 0 && eqb least 0) (spelled-whole most base (least - 1) (n / base))
  where
    by : (b : Bool) → whole_line (spelled base 65 most (least - 1) (n / base)) ≡ true
        → whole_line (cond b [] (spelled base 65 most (least - 1) (n / base) ++ (glyph 65 (n % base) ∷ []))) ≡ true
    by true q = refl
    by false q = both (spelled base 65 most (least - 1) (n / base)) (glyph 65 (n % base) ∷ []) q (rw (glyph-other (n % base)))

numeral-whole : (g : Option ℕ) → whole_line (in_decimal g) ≡ true
numeral-whole (Some n) = spelled-whole 20 10 1 n
numeral-whole None = refl

-- ---- flags
flag-whole : (v : List ℕ) → whole_line (digit_for v ∷ []) ≡ true
flag-whole v = by (is_among trues v) (is_among falses v)
  where
    by : (a b : Bool) → whole_line (cond a 0x31 (cond b 0x30 0) ∷ []) ≡ true
    by true b = refl
    by false true = refl
    by false false = refl

-- ---- by the form
pub says-whole : (f : ℕ) (v : List ℕ) → is_dropped f ≡ false → valid f v ≡ true → whole_line (says f v) ≡ true
says-whole f v d p =
    by (is_dropped f) (eqb f words) (eqb f optional_words) (eqb f hex_number) (eqb f number || eqb f optional_number) d p
  where
    by : (z a b c e : Bool) → z ≡ false
        → cond z (loose v) (cond a (is_words v)
        (cond b (not (missing v) && is_words v) (cond c (is_numeral (numeral v)) (cond e (is_count v) (not (eqb (digit_for v) 0)))))) ≡ true
        → whole_line (cond (a || b) (undo v) (cond c (in_decimal (numeral v)) (cond e (strip (unsigned v)) (digit_for v ∷ [])))) ≡ true
    by true a b c e d p = absurd (let z : ◌≡◌ {A = ℕ} 0 1 = cc in omega arith)
    by false true b c e d p = words-whole v p
    by false false true c e d p = words-whole v (and_right (not (missing v)) (is_words v) p)
    by false false false true e d p = numeral-whole (numeral v)
    by false false false false true d p = count-whole v p
    by false false false false false d p = flag-whole v

pub unsaid-whole : (f : ℕ) → whole_line (unsaid f) ≡ true
unsaid-whole f = by (eqb f optional_words || eqb f optional_number)
  where
    by : (b : Bool) → whole_line (cond b (0x2d ∷ []) (0x30 ∷ [])) ≡ true
    by true = refl
    by false = refl
