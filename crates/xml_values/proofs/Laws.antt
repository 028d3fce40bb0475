-- Laws of values. Assumes nothing.
use mathlib.Core.Path.{◌≡◌, refl, sym, ap, ◌∙◌}
use mathlib.Core.Bool.{Bool, true, false, cond, not, ◌&&◌}
use mathlib.Core.Logic.{⊎_elim}
use mathlib.Core.List.{List, [], ◌∷◌}
use Prim.Native.Nat.{ℕ, suc, ◌+◌, ◌-◌, ◌*◌, ◌^◌, ◌≤◌, ◌<◌}
use native.Mathlib.Nat.{add_assoc, eq-or-lt_of_le, mul-le-mul_left}
use native.Mathlib.Omega.{arith}
use mir.Val.{Fits}
use mir.Syntax.{w64}
use lib.Dec.{eqb, leb, ltb}
use lib.ListN.{length, get_or, take, drop, length-drop}
use lib.Seq.{drop-drop, take-length}
use borrow.Author.Tests.{eqb-true, leb-true, leb-false, le-leb, lt-leb, le-ltb, lt-ltb, eq-eqb, ne_eqb}
use Rattle.laws.proofs.Lists.{next, done, tail}
use Rattle.text.specs.Text.{split, within, missing}
use Rattle.text.specs.Scan.{cut, word_in}
use Rattle.text.proofs.Laws.{split-last, split-more, front_count, without_all, without_one}
use Rattle.xml_values.specs.Scan.{is_white, lead, skip, white, is_letter, word_len}
use Rattle.xml_values.specs.Values.{entity, meant, is_named, named, all_named, loose, is_words, unsigned, is_count, strip, digit_of, run, worth_in}
use Rattle.xml_values.specs.Values.{Capped, numeral_in, is_hex, numeral, is_numeral, is_among, trues, falses, digit_for, valid}
use Rattle.std.specs.Prelude.{Option, Some, None}

-- ---- white bytes and letters at the front
module _ (s : List ℕ) (i : ℕ) (inv : lead s ≡ i + lead (drop i s)) where
  pub lead_hit : (b : Bool) → b ≡ is_white (get_or s i 0) → b ≡ false → i < length s → i ≡ lead s
  lead_hit b e f h = rw (inv, next s i h, ← e, f) (omega arith)

  pub lead-more : (b : Bool) → b ≡ is_white (get_or s i 0) → b ≡ true → i < length s → lead s ≡ i + 1 + lead (drop (i + 1) s)
  lead-more b e f h = rw (inv, next s i h, ← e, f) (omega arith)

  pub lead_done : i ≤ length s → length s ≤ i → length s ≡ lead s
  lead_done l h = rw (inv, done s i h) (omega arith)

module _ (s : List ℕ) (i : ℕ) (inv : word_len s ≡ i + word_len (drop i s)) where
  pub word_hit : (b : Bool) → b ≡ is_letter (get_or s i 0) → b ≡ false → i < length s → i ≡ word_len s
  word_hit b e f h = rw (inv, next s i h, ← e, f) (omega arith)

  pub word_more : (b : Bool) → b ≡ is_letter (get_or s i 0) → b ≡ true → i < length s → word_len s ≡ i + 1 + word_len (drop (i + 1) s)
  word_more b e f h = rw (inv, next s i h, ← e, f) (omega arith)

  pub word_done : i ≤ length s → length s ≤ i → length s ≡ word_len s
  word_done l h = rw (inv, done s i h) (omega arith)

pub letter-low : (x : ℕ) → x < 65 → false ≡ is_letter x
letter-low x h = rw (lt-leb 65 x h)

pub letter_upper : (x : ℕ) → 65 ≤ x → x ≤ 90 → true ≡ is_letter x
letter_upper x h u = rw (le-leb 65 x h, le-leb x 90 u)

pub letter-between : (x : ℕ) → 65 ≤ x → 90 < x → x < 97 → false ≡ is_letter x
letter-between x h u v = rw (le-leb 65 x h, lt-leb x 90 u, lt-leb 97 x v)

pub letter_lower : (x : ℕ) → 65 ≤ x → 90 < x → 97 ≤ x → leb x 122 ≡ is_letter x
letter_lower x h u v = rw (le-leb 65 x h, lt-leb x 90 u, le-leb 97 x v)

pub white-space : (x : ℕ) → x ≡ 32 → true ≡ is_white x
white-space x e = rw e

pub white_tab : (x : ℕ) → x ≡ 9 → true ≡ is_white x
white_tab x e = rw e

pub white_line : (x : ℕ) → x ≡ 10 → true ≡ is_white x
white_line x e = rw e

pub white_return : (x : ℕ) → x ≡ 13 → true ≡ is_white x
white_return x e = rw e

pub white-not : (x : ℕ) → (x ≡ 32 → ⊥) → (x ≡ 9 → ⊥) → (x ≡ 10 → ⊥) → (x ≡ 13 → ⊥) → false ≡ is_white x
white-not x a b c d = rw (ne_eqb x 32 a, ne_eqb x 9 b, ne_eqb x 10 c, ne_eqb x 13 d)

pub blank_is : (s : List ℕ) (l : ℕ) → l ≡ lead s → l ≡ length s → true ≡ white s
blank_is s l e q = rw (eq-eqb (lead s) (length s) (sym e ∙ q))

pub blank-not : (s : List ℕ) (l : ℕ) → l ≡ lead s → (l ≡ length s → ⊥) → false ≡ white s
blank-not s l e q = rw (ne_eqb (lead s) (length s) (λ z. q (e ∙ z)))

pub ruleset front_laws = (
  lead_hit,
  lead-more,
  lead_done,
  word_hit,
  word_more,
  word_done,
  letter-low,
  letter_upper,
  letter-between,
  letter_lower,
  white-space,
  white_tab,
  white_line,
  white_return,
  white-not,
  blank_is,
  blank-not,
)

-- ---- a choice by a test
module _ (z x y : ℕ) (b t : Bool) (is : b ≡ t) where
  pub pick_true : b ≡ true → z ≡ x → z ≡ cond t x y
  pick_true q e = rw (← is, q) e

  pub pick_false : b ≡ false → z ≡ y → z ≡ cond t x y
  pick_false q e = rw (← is, q) e

pub ruleset picks = (pick_true, pick_false)

-- ---- escapes
-- the byte where the first b stands is b
pub cut_byte : (b : ℕ) (l : List ℕ) → cut b l < length l → get_or l (cut b l) 0 ≡ b
cut_byte b [] h = absurd (omega arith)
cut_byte b (x ∷ xs) h = by (eqb x b) refl h (cut_byte b xs)
  where
    by : (t : Bool) → eqb x b ≡ t → cond t 0 (suc (cut b xs)) < suc (length xs) → (cut b xs < length xs → get_or xs (cut b xs) 0 ≡ b)
        → get_or (x ∷ xs) (cond t 0 (suc (cut b xs))) 0 ≡ b
    by true q h ih = eqb-true x b q
    by false q h ih = ih (omega arith)

module _ (p : List ℕ) (e : ℕ) (at-e : e ≡ cut 59 p) where
  pub named_none : e ≡ length p → false ≡ is_named p
  named_none l = go p (sym at-e ∙ l)
    where
      past : (p : List ℕ) → get_or p (length p) 0 ≡ 0
      past [] = refl
      past (x ∷ xs) = past xs

      go : (p : List ℕ) → cut 59 p ≡ length p → false ≡ is_named p
      go p c = rw (c, past p)

  module _ (in_e : e ≤ length p) (some : e ≡ length p → ⊥) (m : ℕ) (is : m ≡ entity (take e p)) where
    there : get_or p (cut 59 p) 0 ≡ 59
    there = cut_byte 59 p (rw (← at-e) (omega (arith, some)))

    meant_is : meant p ≡ m
    meant_is = rw (← at-e, is)

    pub named-not : m ≡ 0 → false ≡ is_named p
    named-not z = rw (there, meant_is, eq-eqb m 0 z)

    pub named_is : (m ≡ 0 → ⊥) → true ≡ is_named p
    named_is z = rw (there, meant_is, ne_eqb m 0 z)

-- ---- the pieces of s that b parts, one after another: at stands at the start of one, which e ends
module _ (b : ℕ) (s : List ℕ) (at e : ℕ) (at-e : e ≡ cut b (take (length s - at) (drop at s)))
    (in_e : e ≤ length (take (length s - at) (drop at s))) where
  at_e' : e ≡ cut b (drop at s)
  at_e' = rw tail at at-e

  pub piece_last : e ≡ length (take (length s - at) (drop at s)) → split b (drop at s) ≡ take e (drop at s) ∷ []
  piece_last l =
      let l' : e ≡ length (drop at s) = rw tail at l in
      rw (l', take-length) (split-last b (drop at s) (sym at_e' ∙ l'))

  module _ (more : e ≡ length (take (length s - at) (drop at s)) → ⊥) where
    pub piece_inside : e < length s - at
    piece_inside = let v : e < length (take (length s - at) (drop at s)) = omega (arith, more) in rw length-drop at (rw tail at v)

    pub piece_more : split b (drop at s) ≡ take e (drop at s) ∷ split b (drop (at + e + 1) s)
    piece_more = rw (add_assoc, ← drop-drop, at_e') (split-more b (drop at s) (rw (← at_e', length-drop) piece_inside))

    pub piece_in : at ≤ length s → at + e + 1 ≤ length s
    piece_in u = omega (arith, piece_inside)

    pub piece_less : at ≤ length s → length s - (at + e + 1) < length s - at
    piece_less u = omega (arith, piece_inside)

module _ (s : List ℕ) (at : ℕ) (inv : named (split 38 s) ≡ named (split 38 (drop at s))) (e : ℕ)
    (at-e : e ≡ cut 38 (take (length s - at) (drop at s)))
    (in_e : e ≤ length (take (length s - at) (drop at s))) (x : Bool) (is : x ≡ is_named (take e (take (length s - at) (drop at s)))) where
  begins : (ps : List (List ℕ)) → split 38 (drop at s) ≡ take e (drop at s) ∷ ps → named (split 38 s) ≡ x && named ps
  begins ps h =
      let is' : x ≡ is_named (take e (drop at s)) = rw tail at is in
      inv ∙ rw (h, ← is')

  pub rest-last : x ≡ true → e ≡ length (take (length s - at) (drop at s)) → true ≡ named (split 38 s)
  rest-last t l = sym (begins [] (piece_last 38 s at e at-e in_e l) ∙ rw t)

  pub rest_more : x ≡ true → (e ≡ length (take (length s - at) (drop at s)) → ⊥) → named (split 38 s) ≡ named (split 38 (drop (at + e + 1) s))
  rest_more t m = begins (split 38 (drop (at + e + 1) s)) (piece_more 38 s at e at-e in_e m) ∙ rw t

  pub rest-not : x ≡ false → false ≡ named (split 38 s)
  rest-not t =
      ⊎_elim
      (λ l. sym (begins [] (piece_last 38 s at e at-e in_e l) ∙ rw t))
      (λ l. sym (begins (split 38 (drop (at + e + 1) s)) (piece_more 38 s at e at-e in_e (λ q. omega arith)) ∙ rw t))
      (eq-or-lt_of_le in_e)

module _ (v : List ℕ) (e : ℕ) (at-e : e ≡ cut 38 v) (in_e : e ≤ length v) where
  pub all_plain : e ≡ length v → true ≡ all_named (split 38 v)
  all_plain l = rw (split-last 38 v (sym at-e ∙ l))

  pub all_rest : (e ≡ length v → ⊥) → (r : Bool) → r ≡ named (split 38 (take (length v - (e + 1)) (drop (e + 1) v))) → r ≡ all_named (split 38 v)
  all_rest m r is =
      let is' : r ≡ named (split 38 (drop (e + 1) v)) = rw tail at is in
      is' ∙ rw (split-more 38 v (rw (← at-e) (omega (arith, m))), at-e)

module _ (v : List ℕ) (e : ℕ) (at-e : e ≡ cut 60 v) where
  pub loose_is : e ≡ length v → (r : Bool) → r ≡ all_named (split 38 v) → r ≡ loose v
  loose_is l r is = rw (without_all 60 v (sym at-e ∙ l)) is

  pub loose-not : e ≤ length v → (e ≡ length v → ⊥) → false ≡ loose v
  loose-not in_e m = rw (without_one 60 v (rw (← at-e) (omega (arith, m))))

module _ (v : List ℕ) (b : Bool) (is : b ≡ within 32 255 v) where
  pub words_is : b ≡ true → (r : Bool) → r ≡ loose v → r ≡ is_words v
  words_is t r e = rw (← is, t) e

  pub words-not : b ≡ false → false ≡ is_words v
  words-not t = rw (← is, t)

pub ruleset escape_laws = (
  named_none,
  named-not,
  named_is,
  front_count,
  piece_in,
  piece_less,
  rest-last,
  rest_more,
  rest-not,
  all_plain,
  all_rest,
  loose_is,
  loose-not,
  words_is,
  words-not,
)

-- ---- numbers in decimal
pub sign_none : (v : List ℕ) → length v ≡ 0 → drop 0 v ≡ unsigned v
sign_none [] h = refl
sign_none (x ∷ xs) h = absurd (omega arith)

pub sign_plus : (v : List ℕ) → (length v ≡ 0 → ⊥) → get_or v 0 0 ≡ 43 → drop 1 v ≡ unsigned v
sign_plus [] h e = absurd (h refl)
sign_plus (x ∷ xs) h e = rw (eq-eqb x 43 e)

pub sign_one : (v : List ℕ) → (length v ≡ 0 → ⊥) → 1 ≤ length v
sign_one v h = omega (arith, h)

pub sign_not : (v : List ℕ) → (length v ≡ 0 → ⊥) → (get_or v 0 0 ≡ 43 → ⊥) → drop 0 v ≡ unsigned v
sign_not [] h e = absurd (h refl)
sign_not (x ∷ xs) h e = rw (ne_eqb x 43 e)

module _ (v : List ℕ) (s : ℕ) (is : drop s v ≡ unsigned v) where
  pub count_none : length (take (length v - s) (drop s v)) < 1 → false ≡ is_count v
  count_none h = let k : length (unsigned v) < 1 = rw is at (rw tail at h) in rw (lt-leb 1 (length (unsigned v)) k)

  pub count_some : 1 ≤ length (take (length v - s) (drop s v)) → (r : Bool) → r ≡ within 48 57 (take (length v - s) (drop s v)) → r ≡ is_count v
  count_some h r e =
      let k : 1 ≤ length (unsigned v) = rw is at (rw tail at h) in
      let w : r ≡ within 48 57 (unsigned v) = rw is at (rw tail at e) in
      rw (le-leb 1 (length (unsigned v)) k) w

  pub start_is : (z : ℕ) → drop z (take (length v - s) (drop s v)) ≡ strip (take (length v - s) (drop s v)) → drop (s + z) v ≡ strip (unsigned v)
  start_is z e = let k : drop z (drop s v) ≡ strip (drop s v) = rw tail at e in rw (← drop-drop, k, is)

  pub start_in : (z : ℕ) → s ≤ length v → z ≤ length (take (length v - s) (drop s v)) → s + z ≤ length v
  start_in z h e = let k : z ≤ length v - s = rw length-drop at (rw tail at e) in omega arith

  pub start_fits : (z : ℕ) → s ≤ length v → z ≤ length (take (length v - s) (drop s v)) → length v < 2 ^ 64 → Fits w64 (s + z)
  start_fits z h e l = omega (arith, start_in z h e)

-- leading zeros: what is left at i is stripped to the same
strip_one : (l : List ℕ) → length l ≡ 1 → strip l ≡ l
strip_one [] h = absurd (omega arith)
strip_one (x ∷ []) h = refl
strip_one (x ∷ y ∷ ys) h = absurd (omega arith)

strip-more : (x : ℕ) (l : List ℕ) → (length l ≡ 0 → ⊥) → x ≡ 48 → strip (x ∷ l) ≡ strip l
strip-more x [] h e = absurd (h refl)
strip-more x (y ∷ ys) h e = rw (eq-eqb x 48 e)

strip-not : (x : ℕ) (l : List ℕ) → (x ≡ 48 → ⊥) → strip (x ∷ l) ≡ x ∷ l
strip-not x [] e = refl
strip-not x (y ∷ ys) e = rw (ne_eqb x 48 e)

module _ (v : List ℕ) (i : ℕ) (inv : strip v ≡ strip (drop i v)) where
  pub zeros_one : length v - i ≡ 1 → drop i v ≡ strip v
  zeros_one h = sym (inv ∙ strip_one (drop i v) (length-drop i v ∙ h))

  pub zeros-more : i < length v → (length v - i ≡ 1 → ⊥) → get_or v i 0 ≡ 48 → strip v ≡ strip (drop (i + 1) v)
  zeros-more h m e =
      let l : length (drop (i + 1) v) ≡ length v - (i + 1) = length-drop (i + 1) v in
      inv ∙ ap strip (next v i h) ∙ strip-more (get_or v i 0) (drop (i + 1) v) (λ z. m (omega arith)) e

  pub zeros-not : i < length v → (get_or v i 0 ≡ 48 → ⊥) → drop i v ≡ strip v
  zeros-not h e = sym (inv ∙ rw (next v i h) (strip-not (get_or v i 0) (drop (i + 1) v) e))

  pub zeros_done : length v ≤ i → drop (length v) v ≡ strip v
  zeros_done h = let d : drop i v ≡ [] = done v i h in done v (length v) (omega arith) ∙ sym (inv ∙ rw d)

pub ruleset count_laws = (
  sign_none,
  sign_plus,
  sign_one,
  sign_not,
  count_none,
  count_some,
  start_is,
  start_in,
  start_fits,
)

pub ruleset zeros_laws = (
  zeros_one,
  zeros-more,
  zeros-not,
  zeros_done,
)

-- ---- numbers in a base
module _ (x : ℕ) where
  pub digit_low : x < 48 → 16 ≡ digit_of x
  digit_low h = rw (lt-leb 48 x h, lt-leb 65 x (omega arith), lt-leb 97 x (omega arith))

  pub digit-decimal : 48 ≤ x → x ≤ 57 → x - 48 ≡ digit_of x
  digit-decimal a b = rw (le-leb 48 x a, le-leb x 57 b)

  module _ (a : 57 < x) where
    pub digit-between : x < 65 → 16 ≡ digit_of x
    digit-between h = rw (lt-leb x 57 a, le-leb 48 x (omega arith), lt-leb 65 x h, lt-leb 97 x (omega arith))

    pub digit-capital : 65 ≤ x → x ≤ 70 → x - 55 ≡ digit_of x
    digit-capital h b = rw (lt-leb x 57 a, le-leb 48 x (omega arith), le-leb 65 x h, le-leb x 70 b)

    module _ (b : 70 < x) where
      pub digit-other : x < 97 → 16 ≡ digit_of x
      digit-other h = rw (lt-leb x 57 a, le-leb 48 x (omega arith), le-leb 65 x (omega arith), lt-leb x 70 b, lt-leb 97 x h)

      pub digit_small : 97 ≤ x → x ≤ 102 → x - 87 ≡ digit_of x
      digit_small h c = rw (lt-leb x 57 a, le-leb 48 x (omega arith), le-leb 65 x (omega arith), lt-leb x 70 b, le-leb 97 x h, le-leb x 102 c)

      pub digit_high : 97 ≤ x → 102 < x → 16 ≡ digit_of x
      digit_high h c = rw (lt-leb x 57 a, le-leb 48 x (omega arith), le-leb 65 x (omega arith), lt-leb x 70 b, le-leb 97 x h, lt-leb x 102 c)

module _ (base : ℕ) (s : List ℕ) (i d : ℕ) (is : d ≡ digit_of (get_or s i 0)) where
  module _ (inv : run base s ≡ i + run base (drop i s)) where
    pub run_hit : i < length s → base ≤ d → i ≡ run base s
    run_hit h l = rw (inv, next s i h, ← is, le-ltb d base l) (omega arith)

    pub run_more : i < length s → d < base → run base s ≡ i + 1 + run base (drop (i + 1) s)
    run_more h l = rw (inv, next s i h, ← is, lt-ltb d base l) (omega arith)

pub run_done : (base : ℕ) (s : List ℕ) (i : ℕ) → run base s ≡ i + run base (drop i s) → i ≤ length s → length s ≤ i → length s ≡ run base s
run_done base s i inv l h = rw (inv, done s i h) (omega arith)

worth_grows : (base v : ℕ) (l : List ℕ) → 1 ≤ base → v ≤ worth_in base v l
worth_grows base v [] b = omega arith
worth_grows base v (x ∷ xs) b = by (ltb (digit_of x) base) (worth_grows base (v * base + digit_of x) xs b)
  where
    wider : v ≤ v * base
    wider = let m : v * 1 ≤ v * base = mul-le-mul_left v b in omega arith

    by : (t : Bool) → v * base + digit_of x ≤ worth_in base (v * base + digit_of x) xs → v ≤ cond t (worth_in base (v * base + digit_of x) xs) v
    by true ih = omega (arith, wider)
    by false ih = omega arith

module _ (base : ℕ) (s : List ℕ) (v i : ℕ) (inv : worth_in base 0 s ≡ worth_in base v (drop i s)) where
  pub worth_done : length s ≤ i → Capped (worth_in base 0 s) v
  worth_done h = let e : worth_in base 0 s ≡ v = inv ∙ rw (done s i h) in record { low = λ l. sym e; over = λ l. rw e at l }

  module _ (d : ℕ) (is : d ≡ digit_of (get_or s i 0)) (h : i < length s) where
    pub worth_hit : base ≤ d → Capped (worth_in base 0 s) v
    worth_hit l =
        let e : worth_in base 0 s ≡ v = inv ∙ rw (next s i h, ← is, le-ltb d base l) in
        record { low = λ l. sym e; over = λ l. rw e at l }

    pub worth-more : d < base → worth_in base 0 s ≡ worth_in base (v * base + d) (drop (i + 1) s)
    worth-more l = inv ∙ rw (next s i h, ← is, lt-ltb d base l)

    pub worth-over : 1 ≤ base → d < base → 4294967295 < v * base + d → Capped (worth_in base 0 s) (v * base + d)
    worth-over b l o =
        let g : v * base + d ≤ worth_in base (v * base + d) (drop (i + 1) s) = worth_grows base (v * base + d) (drop (i + 1) s) b in
        let e : worth_in base 0 s ≡ worth_in base (v * base + d) (drop (i + 1) s) = worth-more l in
        record { low = λ m. absurd (omega arith); over = λ m. o }

-- sixteen times a number of 32 bits
module _ (base v d : ℕ) (few : base ≤ 16) (low : v ≤ 4294967295) where
  pub worth-room : v * base ≤ 68719476720
  worth-room = let m : v * base ≤ v * 16 = mul-le-mul_left v few in omega arith

  pub worth-fits : Fits w64 (v * base)
  worth-fits = omega (arith, worth-room)

  pub worth-sum-fits : d < base → Fits w64 (v * base + d)
  worth-sum-fits h = omega (arith, worth-room)

module _ (base : ℕ) (s : List ℕ) (n : ℕ) (is : n ≡ run base s) where
  pub numeral-none : n < 1 → None ≡ numeral_in base s
  numeral-none h = rw (← is, lt-leb 1 n h)

  module _ (some : 1 ≤ n) (b : Bool) (blank : b ≡ white (take (length s - n) (drop n s))) where
    blank_now : b ≡ white (drop (run base s) s)
    blank_now = rw is at (rw tail at blank)

    some_now : leb 1 (run base s) ≡ true
    some_now = le-leb 1 (run base s) (rw is at some)

    pub numeral_stray : b ≡ false → None ≡ numeral_in base s
    numeral_stray t = rw (some_now, ← blank_now, t)

    module _ (t : b ≡ true) (v : ℕ) (worth : Capped (worth_in base 0 s) v) where
      by : (w : ℕ) → Capped w v → (c : Bool) → leb w 4294967295 ≡ c
          → (v ≤ 4294967295 → Some v ≡ cond c (Some w) None) × (4294967295 < v → None ≡ cond c (Some w) None)
      by w k true q = let l : w ≤ 4294967295 = leb-true w 4294967295 q in (λ h. ap Some (k.low l), λ h. absurd (let z : v ≡ w = k.low l in omega arith))
      by w k false q = let l : 4294967295 < w = leb-false w 4294967295 q in (λ h. absurd (let z : 4294967295 < v = k.over l in omega arith), λ h. refl)

      pub numeral_is : v ≤ 4294967295 → Some v ≡ numeral_in base s
      numeral_is h = (by (worth_in base 0 s) worth (leb (worth_in base 0 s) 4294967295) refl).0 h ∙ rw (some_now, ← blank_now, t)

      pub numeral-over : 4294967295 < v → None ≡ numeral_in base s
      numeral-over h = (by (worth_in base 0 s) worth (leb (worth_in base 0 s) 4294967295) refl).1 h ∙ rw (some_now, ← blank_now, t)

pub hex-short : (l : List ℕ) → length l < 2 → false ≡ is_hex l
hex-short [] h = refl
hex-short (x ∷ []) h = by (eqb x 48)
  where
    by : (t : Bool) → false ≡ t && false
    by true = refl
    by false = refl
hex-short (x ∷ y ∷ ys) h = absurd (omega arith)

module _ (l : List ℕ) where
  pub hex-not : (get_or l 0 0 ≡ 48 → ⊥) → false ≡ is_hex l
  hex-not h = rw (ne_eqb (get_or l 0 0) 48 h)

  pub hex_small : get_or l 0 0 ≡ 48 → get_or l 1 0 ≡ 120 → true ≡ is_hex l
  hex_small h e = rw (eq-eqb (get_or l 0 0) 48 h, eq-eqb (get_or l 1 0) 120 e)

  pub hex-capital : get_or l 0 0 ≡ 48 → (get_or l 1 0 ≡ 120 → ⊥) → eqb (get_or l 1 0) 88 ≡ is_hex l
  hex-capital h e = rw (eq-eqb (get_or l 0 0) 48 h, ne_eqb (get_or l 1 0) 120 e)

pub numeral_sign : (base : ℕ) (l : List ℕ) (s : ℕ) (r : Option ℕ) → r ≡ numeral_in base (take (length l - s) (drop s l)) → drop s l ≡ unsigned l
    → r ≡ numeral_in base (unsigned l)
numeral_sign base l s r e is = let k : r ≡ numeral_in base (drop s l) = rw tail at e in rw is at k

module _ (v : List ℕ) (w : ℕ) (lead_is : w ≡ lead v) (b : Bool) (hex : b ≡ is_hex (take (length v - w) (drop w v))) (r : Option ℕ) where
  behind : take (length v - w) (drop w v) ≡ skip v
  behind = rw (tail, lead_is)

  hex_now : b ≡ is_hex (skip v)
  hex_now = rw behind at hex

  pub numeral-hex : b ≡ true
      → r ≡ numeral_in 16 (unsigned (take (length (take (length v - w) (drop w v)) - 2) (drop 2 (take (length v - w) (drop w v)))))
      → r ≡ numeral v
  numeral-hex t e =
      let k : r ≡ numeral_in 16 (unsigned (drop 2 (take (length v - w) (drop w v)))) =
      e ∙ ap (λ l. numeral_in 16 (unsigned l)) (tail (take (length v - w) (drop w v)) 2) in
      let m : r ≡ numeral_in 16 (unsigned (drop 2 (skip v))) = rw behind at k in
      rw (← hex_now, t) m

  pub numeral-decimal : b ≡ false → r ≡ numeral_in 10 (unsigned (take (length v - w) (drop w v))) → r ≡ numeral v
  numeral-decimal t e = let m : r ≡ numeral_in 10 (unsigned (skip v)) = rw behind at e in rw (← hex_now, t) m

pub hex-long : (l : List ℕ) (b : Bool) → b ≡ is_hex l → b ≡ true → 2 ≤ length l
hex-long [] b e t = absurd (let z : ◌≡◌ {A = Bool} false true = sym e ∙ t in let y : ◌≡◌ {A = ℕ} 0 1 = cc in omega arith)
hex-long (x ∷ []) b e t =
    absurd (let z : ◌≡◌ {A = Bool} false true = hex-short (x ∷ []) (omega arith) ∙ sym e ∙ t in let y : ◌≡◌ {A = ℕ} 0 1 = cc in omega arith)
hex-long (x ∷ y ∷ ys) b e t = omega arith

pub numeral-told : (v : List ℕ) (r : Option ℕ) (n : ℕ) → r ≡ numeral v → r ≡ Some n → true ≡ is_numeral (numeral v)
numeral-told v r n e q = rw (← e, q)

pub numeral_untold : (v : List ℕ) (r : Option ℕ) → r ≡ numeral v → r ≡ None → false ≡ is_numeral (numeral v)
numeral_untold v r e q = rw (← e, q)

pub ruleset digit_laws = (
  digit_low,
  digit-decimal,
  digit-between,
  digit-capital,
  digit-other,
  digit_small,
  digit_high,
)

pub ruleset base_laws = (
  run_hit,
  run_more,
  run_done,
  worth_done,
  worth_hit,
  worth-more,
  worth-over,
  worth-fits,
  worth-sum-fits,
)

pub ruleset numeral_laws = (
  numeral-none,
  numeral_stray,
  numeral_is,
  numeral-over,
  hex-short,
  hex-not,
  hex_small,
  hex-capital,
  numeral_sign,
  numeral-hex,
  numeral-decimal,
  hex-long,
  numeral-told,
  numeral_untold,
)

-- ---- flags
module _ (ws v : List ℕ) (n : ℕ) (is : n ≡ word_in (split 32 ws) v) where
  pub among_is : n < 9 → true ≡ is_among ws v
  among_is h = rw (← is, lt-ltb n 9 h)

  pub among-not : 9 ≤ n → false ≡ is_among ws v
  among-not h = rw (← is, le-ltb n 9 h)

pub ruleset among_laws = (among_is, among-not)

module _ (v : List ℕ) (a : Bool) (yes : a ≡ is_among trues v) where
  pub flag_true : a ≡ true → 49 ≡ digit_for v
  flag_true t = rw (← yes, t)

  module _ (t : a ≡ false) (b : Bool) (none : b ≡ is_among falses v) where
    pub flag_false : b ≡ true → 48 ≡ digit_for v
    flag_false u = rw (← yes, t, ← none, u)

    pub flag-none : b ≡ false → 0 ≡ digit_for v
    flag-none u = rw (← yes, t, ← none, u)

pub flag-not : (v : List ℕ) (d : ℕ) → d ≡ digit_for v → d ≡ 0 → false ≡ not (eqb (digit_for v) 0)
flag-not v d e z = rw (← e, z)

pub flag_is : (v : List ℕ) (d : ℕ) → d ≡ digit_for v → (d ≡ 0 → ⊥) → true ≡ not (eqb (digit_for v) 0)
flag_is v d e z = rw (← e, ne_eqb d 0 z)

-- ---- by the form
pub optional-not : (v : List ℕ) (b : Bool) → b ≡ missing v → b ≡ true → false ≡ not (missing v) && is_words v
optional-not v b e t = rw (← e, t)

pub optional_is : (v : List ℕ) (b r : Bool) → b ≡ missing v → b ≡ false → r ≡ is_words v → r ≡ not (missing v) && is_words v
optional_is v b r e t w = rw (← e, t) w

module _ (f : ℕ) (v : List ℕ) (r : Bool) where
  pub valid_dropped : r ≡ loose v → f < 58 → r ≡ valid f v
  valid_dropped e h = rw (lt-ltb f 58 h) e

  pub valid-words : r ≡ is_words v → f ≡ 119 → r ≡ valid f v
  valid-words e q = rw q e

  pub valid-optional : r ≡ not (missing v) && is_words v → f ≡ 111 → r ≡ valid f v
  valid-optional e q = rw q e

  pub valid-hex : r ≡ is_numeral (numeral v) → f ≡ 120 → r ≡ valid f v
  valid-hex e q = rw q e

  pub valid-number : r ≡ is_count v → f ≡ 110 → r ≡ valid f v
  valid-number e q = rw q e

  pub valid_maybe : r ≡ is_count v → f ≡ 109 → r ≡ valid f v
  valid_maybe e q = rw q e

  pub valid-flag : r ≡ not (eqb (digit_for v) 0) → 58 ≤ f → (f ≡ 119 → ⊥) → (f ≡ 111 → ⊥) → (f ≡ 120 → ⊥)
      → (f ≡ 110 → ⊥) → (f ≡ 109 → ⊥) → r ≡ valid f v
  valid-flag e h a b c d g = rw (le-ltb f 58 h, ne_eqb f 119 a, ne_eqb f 111 b, ne_eqb f 120 c, ne_eqb f 110 d, ne_eqb f 109 g) e

pub ruleset valid_laws = (
  flag_true,
  flag_false,
  flag-none,
  flag-not,
  flag_is,
  optional-not,
  optional_is,
  valid_dropped,
  valid-words,
  valid-optional,
  valid-hex,
  valid-number,
  valid_maybe,
  valid-flag,
)

pub ruleset laws = (picks, front_laws, escape_laws, count_laws, zeros_laws, digit_laws, base_laws, numeral_laws, among_laws, valid_laws)
