-- Laws on values: what is written is a value that is read, and says what the line said. Assumes nothing.
use mathlib.Core.Path.{◌≡◌, refl, sym, ap, ◌∙◌}
use mathlib.Core.Bool.{Bool, true, false, cond, not, ◌&&◌, ◌||◌}
use mathlib.Core.List.{List, [], ◌∷◌, ◌++◌}
use Prim.Native.Nat.{ℕ, zero, suc, ◌+◌, ◌-◌, ◌*◌, ◌/◌, ◌%◌, ◌≤◌, ◌<◌}
use native.Mathlib.Omega.{arith}
use lib.Dec.{eqb, leb, ltb}
use lib.ListN.{length}
use borrow.Author.Tests.{le-leb, lt-leb, lt-ltb, ne_eqb, eqb-true, eqb-false, leb-true, ltb-true, ltb-false}
use Rattle.laws.proofs.Bools.{and_left, and_right}
use Rattle.laws.proofs.Lists.{done}
use Rattle.text.specs.Text.{onto, split, within, without, decimal, up_to, worth, value, missing}
use Rattle.text.specs.Print.{digits_in, shown}
use Rattle.text.proofs.Printing.{shown_back, split-long, missing_is}
use Rattle.text.proofs.Laws.{and_false}
use Rattle.text.proofs.Tests.{value_of}
use Rattle.numerals.specs.Numerals as numerals
use Rattle.numerals.specs.Numerals.{glyph, spelled}
use Rattle.xml_values.specs.Values.{plainly, undo, all_named, loose, is_words, unsigned, is_count, strip, digit_of, run, worth_in}
use Rattle.xml_values.specs.Values.{numeral, is_numeral, in_decimal, trues, falses, digit_for}
use Rattle.xml_spelling.specs.Spelling.{escape_of, escaped, hexed, flagged}
use Rattle.std.specs.Prelude.{Some}

-- ---- words: a byte and how it is written, by the byte
module _ (Q : ℕ → List ℕ → Type 0) (rest : List ℕ)
    (amp : Q 0x26 (0x26 ∷ 0x61 ∷ 0x6d ∷ 0x70 ∷ 0x3b ∷ rest)) (lt : Q 0x3c (0x26 ∷ 0x6c ∷ 0x74 ∷ 0x3b ∷ rest))
    (gt : Q 0x3e (0x26 ∷ 0x67 ∷ 0x74 ∷ 0x3b ∷ rest)) (quot : Q 0x22 (0x26 ∷ 0x71 ∷ 0x75 ∷ 0x6f ∷ 0x74 ∷ 0x3b ∷ rest))
    (apos : Q 0x27 (0x26 ∷ 0x61 ∷ 0x70 ∷ 0x6f ∷ 0x73 ∷ 0x3b ∷ rest)) where
  by_byte : (x : ℕ)
      → ((x ≡ 0x26 → ⊥) → (x ≡ 0x3c → ⊥) → (x ≡ 0x3e → ⊥) → (x ≡ 0x22 → ⊥) → (x ≡ 0x27 → ⊥) → Q x (x ∷ rest))
      → Q x (escape_of x ++ rest)
  by_byte x other = go (eqb x 0x26) (eqb x 0x3c) (eqb x 0x3e) (eqb x 0x22) (eqb x 0x27) refl refl refl refl refl
    where
      go : (a b c d e : Bool) → eqb x 0x26 ≡ a → eqb x 0x3c ≡ b → eqb x 0x3e ≡ c → eqb x 0x22 ≡ d → eqb x 0x27 ≡ e
          → Q x
          (cond a (0x26 ∷ 0x61 ∷ 0x6d ∷ 0x70 ∷ 0x3b ∷ [])
          (cond b (0x26 ∷ 0x6c ∷ 0x74 ∷ 0x3b ∷ [])
          (cond c (0x26 ∷ 0x67 ∷ 0x74 ∷ 0x3b ∷ [])
          (cond d (0x26 ∷ 0x71 ∷ 0x75 ∷ 0x6f ∷ 0x74 ∷ 0x3b ∷ [])
          (cond e (0x26 ∷ 0x61 ∷ 0x70 ∷ 0x6f ∷ 0x73 ∷ 0x3b ∷ []) (x ∷ []))))) ++ rest)
      go true b c d e p q r s t = rw (eqb-true x 0x26 p) amp
      go false true c d e p q r s t = rw (eqb-true x 0x3c q) lt
      go false false true d e p q r s t = rw (eqb-true x 0x3e r) gt
      go false false false true e p q r s t = rw (eqb-true x 0x22 s) quot
      go false false false false true p q r s t = rw (eqb-true x 0x27 t) apos
      go false false false false false p q r s t =
          other (eqb-false x 0x26 p) (eqb-false x 0x3c q) (eqb-false x 0x3e r) (eqb-false x 0x22 s) (eqb-false x 0x27 t)

-- ---- the pieces of what is escaped
plainly-onto : (x : ℕ) (ps : List (List ℕ)) → plainly (onto x ps) ≡ x ∷ plainly ps
plainly-onto x [] = refl
plainly-onto x (p ∷ ps) = refl

onto-named : (x : ℕ) (ps : List (List ℕ)) → 1 ≤ length ps → all_named (onto x ps) ≡ all_named ps
onto-named x [] h = absurd (omega arith)
onto-named x (p ∷ ps) h = refl

some_front : (ps : List (List ℕ)) → 1 ≤ length ps → (Q : List (List ℕ) → Type 0) → ((p : List ℕ) (qs : List (List ℕ)) → Q (p ∷ qs))
    → Q ps
some_front [] h Q f = absurd (omega arith)
some_front (p ∷ ps) h Q f = f p ps

-- what is escaped says what it was
pub undo-escaped : (v : List ℕ) → undo (escaped v) ≡ v
unfolding escaped
undo-escaped [] = refl
undo-escaped (x ∷ xs) =
    let ih : undo (escaped xs) ≡ xs = undo-escaped xs in
    let some : 1 ≤ length (split 0x26 (escaped xs)) = split-long 0x26 (escaped xs) in
    let ps = split 0x26 (escaped xs) in
    by_byte
    (λ y l. undo l ≡ y ∷ xs)
    (escaped xs)
    (some_front ps some (λ qs. plainly ([] ∷ onto 0x61 (onto 0x6d (onto 0x70 (onto 0x3b qs)))) ≡ 0x26 ∷ plainly qs) (λ p qs. refl) ∙ ap
    (λ l. 0x26 ∷ l) ih)
    (some_front ps some (λ qs. plainly ([] ∷ onto 0x6c (onto 0x74 (onto 0x3b qs))) ≡ 0x3c ∷ plainly qs) (λ p qs. refl) ∙ ap (λ l. 0x3c ∷ l) ih)
    (some_front ps some (λ qs. plainly ([] ∷ onto 0x67 (onto 0x74 (onto 0x3b qs))) ≡ 0x3e ∷ plainly qs) (λ p qs. refl) ∙ ap (λ l. 0x3e ∷ l) ih)
    (some_front ps some (λ qs. plainly ([] ∷ onto 0x71 (onto 0x75 (onto 0x6f (onto 0x74 (onto 0x3b qs))))) ≡ 0x22 ∷ plainly qs) (λ p qs. refl)
    ∙ ap (λ l. 0x22 ∷ l) ih)
    (some_front ps some (λ qs. plainly ([] ∷ onto 0x61 (onto 0x70 (onto 0x6f (onto 0x73 (onto 0x3b qs))))) ≡ 0x27 ∷ plainly qs) (λ p qs. refl)
    ∙ ap (λ l. 0x27 ∷ l) ih)
    x
    (λ a b c d e. rw (ne_eqb x 0x26 a) (plainly-onto x ps ∙ ap (λ l. x ∷ l) ih))

named-escaped : (v : List ℕ) → all_named (split 0x26 (escaped v)) ≡ true
unfolding escaped
named-escaped [] = refl
named-escaped (x ∷ xs) =
    let ih : all_named (split 0x26 (escaped xs)) ≡ true = named-escaped xs in
    let some : 1 ≤ length (split 0x26 (escaped xs)) = split-long 0x26 (escaped xs) in
    let ps = split 0x26 (escaped xs) in
    by_byte
    (λ y l. all_named (split 0x26 l) ≡ true)
    (escaped xs)
    (some_front ps some (λ qs. all_named ([] ∷ onto 0x61 (onto 0x6d (onto 0x70 (onto 0x3b qs)))) ≡ all_named qs) (λ p qs. refl) ∙ ih)
    (some_front ps some (λ qs. all_named ([] ∷ onto 0x6c (onto 0x74 (onto 0x3b qs))) ≡ all_named qs) (λ p qs. refl) ∙ ih)
    (some_front ps some (λ qs. all_named ([] ∷ onto 0x67 (onto 0x74 (onto 0x3b qs))) ≡ all_named qs) (λ p qs. refl) ∙ ih)
    (some_front ps some (λ qs. all_named ([] ∷ onto 0x71 (onto 0x75 (onto 0x6f (onto 0x74 (onto 0x3b qs))))) ≡ all_named qs) (λ p qs. refl) ∙ ih)
    (some_front ps some (λ qs. all_named ([] ∷ onto 0x61 (onto 0x70 (onto 0x6f (onto 0x73 (onto 0x3b qs))))) ≡ all_named qs) (λ p qs. refl) ∙ ih)
    x
    (λ a b c d e. rw (ne_eqb x 0x26 a) (onto-named x ps some ∙ ih))

-- no quote and no `<` stands in it
pub quotes_escaped : (v : List ℕ) → without 0x22 (escaped v) ≡ true
unfolding escaped
quotes_escaped [] = refl
quotes_escaped (x ∷ xs) =
    let ih : without 0x22 (escaped xs) ≡ true = quotes_escaped xs in
    by_byte (λ y l. without 0x22 l ≡ true) (escaped xs) ih ih ih ih ih x (λ a b c d e. rw (ne_eqb x 0x22 d) ih)

less_escaped : (v : List ℕ) → without 0x3c (escaped v) ≡ true
unfolding escaped
less_escaped [] = refl
less_escaped (x ∷ xs) =
    let ih : without 0x3c (escaped xs) ≡ true = less_escaped xs in
    by_byte (λ y l. without 0x3c l ≡ true) (escaped xs) ih ih ih ih ih x (λ a b c d e. rw (ne_eqb x 0x3c b) ih)

within-escaped : (v : List ℕ) → within 0x20 0xff v ≡ true → within 0x20 0xff (escaped v) ≡ true
unfolding escaped
within-escaped [] w = refl
within-escaped (x ∷ xs) w =
    let r : (leb x 0xff && within 0x20 0xff xs) ≡ true = and_right (leb 0x20 x) _ w in
    let ih : within 0x20 0xff (escaped xs) ≡ true = within-escaped xs (and_right (leb x 0xff) (within 0x20 0xff xs) r) in
    by_byte (λ y l. within 0x20 0xff l ≡ true) (escaped xs) ih ih ih ih ih x
    (λ a b c d e. rw (and_left (leb 0x20 x) _ w, and_left (leb x 0xff) (within 0x20 0xff xs) r) ih)

pub loose-escaped : (v : List ℕ) → loose (escaped v) ≡ true
loose-escaped v = rw (less_escaped v, named-escaped v)

pub words-escaped : (v : List ℕ) → within 0x20 0xff v ≡ true → is_words (escaped v) ≡ true
words-escaped v w = rw (within-escaped v w, loose-escaped v)

pub within_more : (lo hi hi' : ℕ) (l : List ℕ) → hi ≤ hi' → within lo hi l ≡ true → within lo hi' l ≡ true
within_more lo hi hi' [] h w = refl
within_more lo hi hi' (x ∷ xs) h w =
    let r : (leb x hi && within lo hi xs) ≡ true = and_right (leb lo x) _ w in
    let up : x ≤ hi = leb-true x hi (and_left (leb x hi) (within lo hi xs) r) in
    rw (and_left (leb lo x) _ w, le-leb x hi' (omega arith)) (within_more lo hi hi' xs h (and_right (leb x hi) (within lo hi xs) r))

-- ---- numbers in decimal: no byte of them has a name
pub decimal-digits : (l : List ℕ) → decimal l ≡ true → (within 48 57 l ≡ true) × (1 ≤ length l)
decimal-digits [] e = absurd (let z : ◌≡◌ {A = ℕ} 0 1 = cc in omega arith)
decimal-digits (x ∷ []) e = (e, omega arith)
decimal-digits (x ∷ y ∷ ys) e = (and_right (not (eqb x 48)) _ e, omega arith)

pub escaped-digits : (l : List ℕ) → within 48 57 l ≡ true → escaped l ≡ l
unfolding escaped
escaped-digits [] w = refl
escaped-digits (x ∷ xs) w =
    let low : 48 ≤ x = leb-true 48 x (and_left (leb 48 x) _ w) in
    let r : (leb x 57 && within 48 57 xs) ≡ true = and_right (leb 48 x) _ w in
    let high : x ≤ 57 = leb-true x 57 (and_left (leb x 57) (within 48 57 xs) r) in
    let ih : escaped xs ≡ xs = escaped-digits xs (and_right (leb x 57) (within 48 57 xs) r) in
    rw (
      ne_eqb x 0x26 (λ e. omega arith),
      ne_eqb x 0x3c (λ e. omega arith),
      ne_eqb x 0x3e (λ e. omega arith),
      ne_eqb x 0x22 (λ e. omega arith),
      ne_eqb x 0x27 (λ e. omega arith),
    )
    (ap (λ l. x ∷ l) ih)

pub not_is : (b : Bool) → not b ≡ true → b ≡ false
not_is true e = absurd (let z : ◌≡◌ {A = ℕ} 0 1 = cc in omega arith)
not_is false e = refl

unsigned-digits : (l : List ℕ) → within 48 57 l ≡ true → unsigned l ≡ l
unsigned-digits [] w = refl
unsigned-digits (x ∷ xs) w = let low : 48 ≤ x = leb-true 48 x (and_left (leb 48 x) _ w) in rw (ne_eqb x 0x2b (λ e. omega arith))

strip-decimal : (l : List ℕ) → decimal l ≡ true → strip l ≡ l
strip-decimal [] e = refl
strip-decimal (x ∷ []) e = refl
strip-decimal (x ∷ y ∷ ys) e = rw (not_is (eqb x 48) (and_left (not (eqb x 48)) _ e))

pub decimal-says : (l : List ℕ) → decimal l ≡ true → strip (unsigned (escaped l)) ≡ l
decimal-says l e =
    let w : within 48 57 l ≡ true = (decimal-digits l e).0 in
    ap (λ s. strip (unsigned s)) (escaped-digits l w) ∙ ap strip (unsigned-digits l w) ∙ strip-decimal l e

pub decimal-valid : (l : List ℕ) → decimal l ≡ true → is_count (escaped l) ≡ true
decimal-valid l e =
    let w : within 48 57 l ≡ true = (decimal-digits l e).0 in
    rw (escaped-digits l w, unsigned-digits l w, le-leb 1 (length l) (decimal-digits l e).1, w)

-- ---- numbers in hexadecimal
abbrev power : ℕ → ℕ → ℕ
power base zero = 1
power base (suc m) = base * power base m

digit_glyph : (d : ℕ) → d < 16 → digit_of (glyph 65 d) ≡ d
digit_glyph d h = go (ltb d 10) refl
  where
    go : (t : Bool) → ltb d 10 ≡ t → digit_of (cond t (48 + d) (65 + (d - 10))) ≡ d
    go true q =
        let u : d < 10 = ltb-true d 10 q in
        rw (le-leb 48 (48 + d) (omega arith), le-leb (48 + d) 57 (omega arith)) (omega arith)
    go false q =
        let l : 10 ≤ d = ltb-false d 10 q in
        rw (
          le-leb 48 (65 + (d - 10)) (omega arith),
          lt-leb (65 + (d - 10)) 57 (omega arith),
          le-leb 65 (65 + (d - 10)) (omega arith),
          le-leb (65 + (d - 10)) 70 (omega arith),
        )
        (omega arith)

run-append : (base : ℕ) (l : List ℕ) (x : ℕ) → run base l ≡ length l → digit_of x < base → run base (l ++ (x ∷ [])) ≡ length (l ++ (x ∷ []))
run-append base [] x r h = rw (lt-ltb (digit_of x) base h)
run-append base (y ∷ ys) x r h = go (ltb (digit_of y) base) r (run-append base ys x)
  where
    go : (t : Bool) → cond t (suc (run base ys)) 0 ≡ suc (length ys)
        → (run base ys ≡ length ys → digit_of x < base → run base (ys ++ (x ∷ [])) ≡ length (ys ++ (x ∷ [])))
        → cond t (suc (run base (ys ++ (x ∷ [])))) 0 ≡ suc (length (ys ++ (x ∷ [])))
    go true r f = rw (f (omega arith) h)
    go false r f = absurd (omega arith)

worth-append : (base v : ℕ) (l : List ℕ) (x : ℕ) → run base l ≡ length l → digit_of x < base
    → worth_in base v (l ++ (x ∷ [])) ≡ worth_in base v l * base + digit_of x
worth-append base v [] x r h = rw (lt-ltb (digit_of x) base h)
worth-append base v (y ∷ ys) x r h = go (ltb (digit_of y) base) r (λ q. worth-append base (v * base + digit_of y) ys x q h)
  where
    go : (t : Bool) → cond t (suc (run base ys)) 0 ≡ suc (length ys)
        → (run base ys ≡ length ys → worth_in base (v * base + digit_of y) (ys ++ (x ∷ [])) ≡ worth_in base (v * base + digit_of y) ys * base + digit_of x)
        → cond t (worth_in base (v * base + digit_of y) (ys ++ (x ∷ []))) v ≡ cond t (worth_in base (v * base + digit_of y) ys) v * base + digit_of x
    go true r f = f (omega arith)
    go false r f = absurd (omega arith)

-- a number that is spelled is read back
record Spelt (l : List ℕ) (n : ℕ) : Type 0 where
  all : run 16 l ≡ length l
  is : worth_in 16 0 l ≡ n

hex_spelt : (most least n : ℕ) → n < power 16 most → Spelt (spelled 16 65 most least n) n
unfolding spelled
hex_spelt zero least n h = record { all = refl; is = omega arith }
hex_spelt (suc most) least n h = go (eqb n 0 && eqb least 0) refl (hex_spelt most (least - 1) (n / 16) (omega arith))
  where
    d : digit_of (glyph 65 (n % 16)) ≡ n % 16
    d = digit_glyph (n % 16) (omega arith)

    go : (t : Bool) → (eqb n 0 && eqb least 0) ≡ t → Spelt (spelled 16 65 most (least - 1) (n / 16)) (n / 16)
        → Spelt (cond t [] (spelled 16 65 most (least - 1) (n / 16) ++ (glyph 65 (n % 16) ∷ []))) n
    go true q s = let z : n ≡ 0 = eqb-true n 0 (and_left (eqb n 0) (eqb least 0) q) in record { all = refl; is = sym z }
    go false q s = record {
      all = run-append 16 (spelled 16 65 most (least - 1) (n / 16)) (glyph 65 (n % 16)) s.all (omega (arith, d));
      is =
          worth-append 16 0 (spelled 16 65 most (least - 1) (n / 16)) (glyph 65 (n % 16)) s.all (omega (arith, d))
          ∙ omega (arith, s.is, d);
    }

unsigned-run : (l : List ℕ) → run 16 l ≡ length l → unsigned l ≡ l
unsigned-run [] r = refl
unsigned-run (x ∷ xs) r = go (eqb x 0x2b) refl
  where
    go : (t : Bool) → eqb x 0x2b ≡ t → cond t xs (x ∷ xs) ≡ x ∷ xs
    go true q =
        let e : x ≡ 0x2b = eqb-true x 0x2b q in
        let z : run 16 (0x2b ∷ xs) ≡ suc (length xs) = rw e at r in
        absurd (let w : ◌≡◌ {A = ℕ} 0 (suc (length xs)) = z in omega arith)
    go false q = refl

long-append : (l : List ℕ) (x : ℕ) → 1 ≤ length (l ++ (x ∷ []))
long-append [] x = omega arith
long-append (y ∷ ys) x = omega arith

some_spelt : (n : ℕ) → 1 ≤ length (spelled 16 65 20 1 n)
unfolding spelled
some_spelt n = rw (and_false (eqb n 0)) (long-append (spelled 16 65 19 0 (n / 16)) (glyph 65 (n % 16)))

-- what is written in hexadecimal is that number
numeral-hexed : (s : List ℕ) (n : ℕ) → Spelt s n → 1 ≤ length s → n ≤ 65535 → numeral (0x30 ∷ 0x78 ∷ s) ≡ Some n
numeral-hexed s n spelt some low =
    rw
    (unsigned-run s spelt.all, spelt.all, le-leb 1 (length s) some, done s (length s) (omega arith), spelt.is, le-leb n 4294967295 (omega arith))

ten-zero : (most : ℕ) → spelled 10 65 most 0 0 ≡ []
unfolding spelled
ten-zero zero = refl
ten-zero (suc most) = refl

ten-least : (most m : ℕ) → (m ≡ 0 → ⊥) → spelled 10 65 most 0 m ≡ spelled 10 65 most 1 m
unfolding spelled
ten-least zero m h = refl
ten-least (suc most) m h = rw (ne_eqb m 0 h)

-- a number in decimal, spelled in one way and in the other
tens : (most k n : ℕ) → n < power 10 (suc most) → n < k → spelled 10 65 (suc most) 1 n ≡ digits_in k n
unfolding spelled
tens most zero n h l = absurd (omega arith)
tens zero (suc k) n h l =
    let q : n / 10 ≡ 0 = omega arith in
    let m : n % 10 ≡ n = omega arith in
    rw (and_false (eqb n 0), m, lt-ltb n 10 (omega arith))
tens (suc most) (suc k) n h l = go (ltb n 10) refl (tens most k (n / 10))
  where
    go : (t : Bool) → ltb n 10 ≡ t → (n / 10 < power 10 (suc most) → n / 10 < k → spelled 10 65 (suc most) 1 (n / 10) ≡ digits_in k (n / 10))
        → cond (eqb n 0 && false) [] (spelled 10 65 (suc most) 0 (n / 10) ++ (glyph 65 (n % 10) ∷ []))
        ≡ cond t ((48 + n) ∷ []) (digits_in k (n / 10) ++ ((48 + n % 10) ∷ []))
    go true q ih =
        let u : n < 10 = ltb-true n 10 q in
        let z : n / 10 ≡ 0 = omega arith in
        let m : n % 10 ≡ n = omega arith in
        rw (and_false (eqb n 0), z, ten-zero (suc most), m, q)
    go false q ih =
        let u : 10 ≤ n = ltb-false n 10 q in
        rw
        (and_false (eqb n 0), ten-least (suc most) (n / 10) (λ e. omega arith), ih (omega arith) (omega arith), lt-ltb (n % 10) 10 (omega arith))

decimal_back : (l : List ℕ) → up_to 65535 l ≡ true → numerals.decimal (worth 0 l) ≡ l
unfolding shown
decimal_back l e =
    let low : worth 0 l ≤ 65535 = leb-true (worth 0 l) 65535 (and_right (decimal l) (leb (worth 0 l) 65535) e) in
    tens 19 (suc (worth 0 l)) (worth 0 l) (omega arith) (omega arith) ∙ shown_back l (and_left (decimal l) (leb (worth 0 l) 65535) e)

numeral_is : (l : List ℕ) → up_to 65535 l ≡ true → numeral (hexed l) ≡ Some (worth 0 l)
numeral_is l e =
    let low : worth 0 l ≤ 65535 = leb-true (worth 0 l) 65535 (and_right (decimal l) (leb (worth 0 l) 65535) e) in
    rw (value_of 65535 l e) (numeral-hexed (spelled 16 65 20 1 (worth 0 l)) (worth 0 l) (hex_spelt 20 1 (worth 0 l) (omega arith)) (some_spelt (worth 0 l)) low)

pub hex-valid : (l : List ℕ) → up_to 65535 l ≡ true → is_numeral (numeral (hexed l)) ≡ true
hex-valid l e = rw (numeral_is l e)

pub hex-says : (l : List ℕ) → up_to 65535 l ≡ true → in_decimal (numeral (hexed l)) ≡ l
hex-says l e = rw (numeral_is l e) (decimal_back l e)

pub without-append : (b : ℕ) (l m : List ℕ) → without b l ≡ true → without b m ≡ true → without b (l ++ m) ≡ true
without-append b [] m p q = q
without-append b (x ∷ xs) m p q =
    rw (and_left (not (eqb x b)) (without b xs) p) (without-append b xs m (and_right (not (eqb x b)) (without b xs) p) q)

quotes_glyph : (d : ℕ) → without 0x22 (glyph 65 d ∷ []) ≡ true
quotes_glyph d = go (ltb d 10)
  where
    go : (t : Bool) → without 0x22 (cond t (48 + d) (65 + (d - 10)) ∷ []) ≡ true
    go true = rw (ne_eqb (48 + d) 0x22 (λ e. omega arith))
    go false = rw (ne_eqb (65 + (d - 10)) 0x22 (λ e. omega arith))

quotes_spelled : (most least n : ℕ) → without 0x22 (spelled 16 65 most least n) ≡ true
unfolding spelled
quotes_spelled zero least n = refl
quotes_spelled (suc most) least n = go (eqb n 0 && eqb least 0) (quotes_spelled most (least - 1) (n / 16))
  where
    go : (t : Bool) → without 0x22 (spelled 16 65 most (least - 1) (n / 16)) ≡ true
        → without 0x22 (cond t [] (spelled 16 65 most (least - 1) (n / 16) ++ (glyph 65 (n % 16) ∷ []))) ≡ true
    go true q = refl
    go false q = without-append 0x22 (spelled 16 65 most (least - 1) (n / 16)) (glyph 65 (n % 16) ∷ []) q (quotes_glyph (n % 16))

pub quotes_hexed : (l : List ℕ) → without 0x22 (hexed l) ≡ true
quotes_hexed l = quotes_spelled 20 1 (value 65535 l)

-- ---- flags
abbrev pub is_bit : ℕ → Bool
is_bit x = eqb x 0x30 || eqb x 0x31

pub flag-says : (x : ℕ) → is_bit x ≡ true → digit_for (flagged x) ≡ x
unfolding trues falses
flag-says x e = go (eqb x 0x31) refl
  where
    zero_is : (a : Bool) → eqb x 0x30 ≡ a → (a || false) ≡ true → x ≡ 0x30
    zero_is true q h = eqb-true x 0x30 q
    zero_is false q h = absurd (let z : ◌≡◌ {A = ℕ} 0 1 = cc in omega arith)

    go : (t : Bool) → eqb x 0x31 ≡ t → digit_for (flagged x) ≡ x
    go true q = let i : x ≡ 0x31 = eqb-true x 0x31 q in rw i
    go false q = let i : x ≡ 0x30 = zero_is (eqb x 0x30) refl (rw q at e) in rw i

pub flag-valid : (x : ℕ) → is_bit x ≡ true → not (eqb (digit_for (flagged x)) 0) ≡ true
flag-valid x e = go (eqb x 0) refl
  where
    go : (t : Bool) → eqb x 0 ≡ t → not (eqb (digit_for (flagged x)) 0) ≡ true
    go true q = let z : x ≡ 0 = eqb-true x 0 q in absurd (let w : is_bit 0 ≡ true = rw z at e in let y : ◌≡◌ {A = ℕ} 0 1 = cc in omega arith)
    go false q = rw (flag-says x e, q)

pub quotes_flagged : (x : ℕ) → without 0x22 (flagged x) ≡ true
quotes_flagged x = go (eqb x 0x31)
  where
    go : (t : Bool) → without 0x22 (cond t (0x74 ∷ 0x72 ∷ 0x75 ∷ 0x65 ∷ []) (0x66 ∷ 0x61 ∷ 0x6c ∷ 0x73 ∷ 0x65 ∷ [])) ≡ true
    go true = refl
    go false = refl

-- what is not missing is not missing as it is written
pub given-escaped : (l : List ℕ) → missing l ≡ false → missing (escaped l) ≡ false
given-escaped l e = go (missing (escaped l)) refl
  where
    go : (t : Bool) → missing (escaped l) ≡ t → t ≡ false
    go false q = refl
    go true q =
        let d : escaped l ≡ 45 ∷ [] = missing_is (escaped l) q in
        let i : l ≡ 45 ∷ [] = sym (undo-escaped l) ∙ ap undo d in
        let m : missing l ≡ true = rw i in
        absurd (let y : ◌≡◌ {A = Bool} true false = sym m ∙ e in let z : ◌≡◌ {A = ℕ} 0 1 = cc in omega arith)
