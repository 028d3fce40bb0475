-- Laws of writing into room for a text. Assumes nothing.
use mathlib.Core.Path.{◌≡◌, refl, sym, ap, ◌∙◌}
use mathlib.Core.Bool.{Bool, true, false}
use mathlib.Core.List.{List, [], ◌∷◌, ◌++◌, append-nil}
use Prim.Native.Nat.{ℕ, ◌+◌, ◌-◌, ◌≤◌, ◌<◌}
use native.Mathlib.Nat.{add-zero}
use native.Mathlib.Omega.{arith}
use lib.Dec.{leb}
use lib.ListN.{length, get_or, take, drop, set, length-append, length-drop}
use lib.Seq.{sets, take-length}
use borrow.Author.Tests.{leb-true, leb-false, lt-ltb, le-ltb, eq-eqb, ne_eqb}
use Rattle.laws.proofs.Lists.{next, done, tail}
use Rattle.text.specs.Text.{split, fields}
use Rattle.text.specs.Scan.{cut}
use Rattle.text.specs.declared.Part.{Part}
use Rattle.text.proofs.Laws.{split-last, split-more, front_count}
use Rattle.buffer.proofs.Laws.{sets-append}
use Rattle.numerals.specs.Numerals.{room, decimal, Spells}
use Rattle.numerals.proofs.Laws.{digits_are}
use Rattle.xml_schema.specs.Schema.{form_of, name_of, Follows}
use Rattle.xml_schema.proofs.Laws.{entry_last, entry_is, entry_laws}
use Rattle.xml_values.specs.Values.{entity, meant, parts, plainly, undo, unsigned, strip, numeral, in_decimal, digit_for, says, unsaid}
use Rattle.xml_values.proofs.Laws.{piece_last, piece_more, piece_in, piece_less}
use Rattle.xml_tags.specs.Tags.{has, told, part, fields_of}
use Rattle.xml_tags.specs.Steps.{Spans}
use Rattle.xml_draft.specs.Draft.{Laid, Going}
use Rattle.std.specs.Prelude.{Option, Some, None}

-- ---- bytes behind bytes
pub laid_none : (t : List ℕ) (n : ℕ) → Laid t t n n []
laid_none t n = record { low = λ h. sym (add-zero n); over = λ h. omega arith; fill = λ h. refl }

pub laid_then : (t u v : List ℕ) (n m r : ℕ) (a b : List ℕ) → Laid t u n m a → Laid u v m r b → Laid t v n r (a ++ b)
laid_then t u v n m r a b p q =
    let l : length (a ++ b) ≡ length a + length b = length-append a b in
    record {
      low = λ h.
          let e : m ≡ n + length a = p.low (omega arith) in
          let f : r ≡ m + length b = q.low (omega arith) in
          omega arith;
      over = λ h.
          either (leb (n + length a) 60000) refl (omega arith);
      fill = λ h.
          let e : m ≡ n + length a = p.low (omega arith) in
          let f : u ≡ sets t n a = p.fill (omega arith) in
          let g : v ≡ sets u m b = q.fill (omega arith) in
          g ∙ rw (f, e) (sym (sets-append t n a b));
    }
  where
    either : (c : Bool) → leb (n + length a) 60000 ≡ c → 60000 < n + (length a + length b) → 60000 < r
    either true k h = let e : m ≡ n + length a = p.low (leb-true (n + length a) 60000 k) in q.over (omega arith)
    either false k h = let e : 60000 < m = p.over (leb-false (n + length a) 60000 k) in q.over (omega arith)

pub byte_there : (t : List ℕ) (n b : ℕ) → n < 60000 → Laid t (set t n b) n (n + 1) (b ∷ [])
byte_there t n b h = record { low = λ k. refl; over = λ k. omega arith; fill = λ k. refl }

pub byte_past : (t : List ℕ) (n b : ℕ) → 60000 ≤ n → Laid t t n 60001 (b ∷ [])
byte_past t n b h = record { low = λ k. absurd (omega arith); over = λ k. omega arith; fill = λ k. absurd (omega arith) }

pub going_start : (t : List ℕ) (n : ℕ) (l : List ℕ) → Going t n l t n l
going_start t n l = record { ends = λ u r q. q }

pub going_on : (t₀ : List ℕ) (n₀ : ℕ) (l t : List ℕ) (n : ℕ) (rest a left : List ℕ) (u : List ℕ) (m : ℕ)
    → Going t₀ n₀ l t n rest → rest ≡ a ++ left → Laid t u n m a → Going t₀ n₀ l u m left
going_on t₀ n₀ l t n rest a left u m go e p = record {
  ends = λ v r q. go.ends v r (rw e (laid_then t u v n m r a left p q));
}

pub going_done : (t₀ : List ℕ) (n₀ : ℕ) (l t : List ℕ) (n : ℕ) (rest : List ℕ) → Going t₀ n₀ l t n rest → rest ≡ []
    → Laid t₀ t n₀ n l
going_done t₀ n₀ l t n rest go e = go.ends t n (rw e (laid_none t n))

-- ---- byte by byte
module _ (t₀ : List ℕ) (n₀ : ℕ) (s t : List ℕ) (n i : ℕ) (go : Going t₀ n₀ s t n (drop i s)) where
  pub all_more : i < length s → (u : List ℕ) (m : ℕ) → Laid t u n m (get_or s i 0 ∷ []) → Going t₀ n₀ s u m (drop (i + 1) s)
  all_more h u m p = going_on t₀ n₀ s t n (drop i s) (get_or s i 0 ∷ []) (drop (i + 1) s) u m go (next s i h) p

  pub all_done : length s ≤ i → Laid t₀ t n₀ n s
  all_done h = going_done t₀ n₀ s t n (drop i s) go (done s i h)

pub ruleset byte_laws = (byte_there, byte_past, going_start, all_more, all_done)

-- ---- what stands behind an `&`
module _ (p : List ℕ) (k : ℕ) (at-k : k ≡ cut 59 p) (b : ℕ) (is_b : b ≡ entity (take k p)) (t u : List ℕ) (n m : ℕ)
    (one : Laid t u n m (b ∷ [])) where
  b_is : b ≡ meant p
  b_is = rw at-k at is_b

  pub part_bare : k ≡ length p → Laid t u n m (meant p ∷ drop (cut 59 p + 1) p)
  part_bare e =
      let d : drop (cut 59 p + 1) p ≡ [] = done p (cut 59 p + 1) (rw (← at-k) (omega arith)) in
      rw (← b_is, d) one

  pub part-rest : (v : List ℕ) (r : ℕ) → Laid u v m r (take (length p - (k + 1)) (drop (k + 1) p)) → Laid t v n r (meant p ∷ drop (cut 59 p + 1) p)
  part-rest v r l =
      let l' : Laid u v m r (drop (k + 1) p) = rw tail at l in
      let w : Laid t v n r (b ∷ drop (k + 1) p) = laid_then t u v n m r (b ∷ []) (drop (k + 1) p) one l' in
      rw (← b_is, ← at-k) w

pub ruleset part_laws = (part_bare, part-rest, front_count)

-- each of them
module _ (t₀ : List ℕ) (n₀ : ℕ) (s t : List ℕ) (n at : ℕ) (go : Going t₀ n₀ (parts (split 38 s)) t n (parts (split 38 (drop at s))))
    (e : ℕ) (at-e : e ≡ cut 38 (take (length s - at) (drop at s))) (in_e : e ≤ length (take (length s - at) (drop at s)))
    (u : List ℕ) (m : ℕ)
    (one : Laid t u n m (meant (take e (take (length s - at) (drop at s)))
    ∷ drop (cut 59 (take e (take (length s - at) (drop at s))) + 1) (take e (take (length s - at) (drop at s))))) where
  one_now : Laid t u n m (meant (take e (drop at s)) ∷ drop (cut 59 (take e (drop at s)) + 1) (take e (drop at s)))
  one_now = rw tail at one

  pub parts_last : e ≡ length (take (length s - at) (drop at s)) → Laid t₀ u n₀ m (parts (split 38 s))
  parts_last l =
      let q : parts (split 38 (drop at s)) ≡ meant (take e (drop at s)) ∷ (drop (cut 59 (take e (drop at s)) + 1) (take e (drop at s)) ++ []) =
      ap parts (piece_last 38 s at e at-e in_e l) in
      going_done t₀ n₀ (parts (split 38 s)) u m []
      (going_on t₀ n₀ (parts (split 38 s)) t n (parts (split 38 (drop at s)))
      (meant (take e (drop at s)) ∷ drop (cut 59 (take e (drop at s)) + 1) (take e (drop at s))) [] u m go q one_now)
      refl

  pub parts_more : (e ≡ length (take (length s - at) (drop at s)) → ⊥)
      → Going t₀ n₀ (parts (split 38 s)) u m (parts (split 38 (drop (at + e + 1) s)))
  parts_more h =
      let q : parts (split 38 (drop at s))
      ≡ meant (take e (drop at s)) ∷ (drop (cut 59 (take e (drop at s)) + 1) (take e (drop at s)) ++ parts (split 38 (drop (at + e + 1) s))) =
      ap parts (piece_more 38 s at e at-e in_e h) in
      going_on t₀ n₀ (parts (split 38 s)) t n (parts (split 38 (drop at s)))
      (meant (take e (drop at s)) ∷ drop (cut 59 (take e (drop at s)) + 1) (take e (drop at s)))
      (parts (split 38 (drop (at + e + 1) s))) u m go q one_now

pub ruleset parts_laws = (going_start, parts_last, parts_more, piece_in, piece_less, front_count)

-- ---- a value
module _ (v : List ℕ) (e : ℕ) (at-e : e ≡ cut 38 v) (in_e : e ≤ length v) (t u : List ℕ) (n m : ℕ) (front : Laid t u n m (take e v)) where
  pub words-plain : e ≡ length v → Laid t u n m (undo v)
  words-plain l =
      let q : undo v ≡ take e v = ap plainly (split-last 38 v (sym at-e ∙ l)) ∙ append-nil v ∙ sym (rw (l, take-length)) in
      rw q front

  pub words-rest : (e ≡ length v → ⊥) → (w : List ℕ) (r : ℕ) → Laid u w m r (parts (split 38 (take (length v - (e + 1)) (drop (e + 1) v))))
      → Laid t w n r (undo v)
  words-rest more w r l =
      let l' : Laid u w m r (parts (split 38 (drop (e + 1) v))) = rw tail at l in
      let q : undo v ≡ take e v ++ parts (split 38 (drop (e + 1) v)) = rw at-e (ap plainly (split-more 38 v (rw (← at-e) (omega (arith, more))))) in
      rw q (laid_then t u w n m r (take e v) (parts (split 38 (drop (e + 1) v))) front l')

pub ruleset words_laws = (words-plain, words-rest, front_count)

module _ (t u : List ℕ) (n r : ℕ) (v : List ℕ) where
  pub count-laid : (a : ℕ) → drop a v ≡ strip (unsigned v) → Laid t u n r (take (length v - a) (drop a v)) → Laid t u n r (strip (unsigned v))
  count-laid a e l = let m : Laid t u n r (drop a v) = rw tail at l in rw e at m

  pub decimal-laid : (number a : ℕ) (out : List ℕ) → Spells 2 (decimal number) a out → Laid t u n r (take (room - a) (drop a out))
      → Laid t u n r (decimal number)
  decimal-laid number a out s l = rw (digits_are 2 (decimal number) a out s) at l

  pub numeral-laid : (g : Option ℕ) → g ≡ numeral v → (number : ℕ) → g ≡ Some number → Laid t u n r (decimal number)
      → Laid t u n r (in_decimal (numeral v))
  numeral-laid g e number q l = rw (← e, q) l

  pub numeral_unlaid : (g : Option ℕ) → g ≡ numeral v → g ≡ None → Laid t t n n (in_decimal (numeral v))
  numeral_unlaid g e q = rw (← e, q) (laid_none t n)

pub decimal-start : (number a : ℕ) (out : List ℕ) → Spells 2 (decimal number) a out → a ≤ length out
decimal-start number a out s = s.within

pub ruleset number_laws = (count-laid, decimal-laid, decimal-start, numeral-laid, numeral_unlaid)

-- ---- by the form
module _ (t u : List ℕ) (n r f : ℕ) (v : List ℕ) where
  pub said-words : f ≡ 119 → Laid t u n r (undo v) → Laid t u n r (says f v)
  said-words q l = rw q l

  pub said-optional : f ≡ 111 → Laid t u n r (undo v) → Laid t u n r (says f v)
  said-optional q l = rw q l

  pub said-hex : f ≡ 120 → Laid t u n r (in_decimal (numeral v)) → Laid t u n r (says f v)
  said-hex q l = rw q l

  pub said-number : f ≡ 110 → Laid t u n r (strip (unsigned v)) → Laid t u n r (says f v)
  said-number q l = rw q l

  pub said_maybe : f ≡ 109 → Laid t u n r (strip (unsigned v)) → Laid t u n r (says f v)
  said_maybe q l = rw q l

  pub said-flag : (f ≡ 119 → ⊥) → (f ≡ 111 → ⊥) → (f ≡ 120 → ⊥) → (f ≡ 110 → ⊥) → (f ≡ 109 → ⊥) → (d : ℕ)
      → d ≡ digit_for v → Laid t u n r (d ∷ [])
      → Laid t u n r (says f v)
  said-flag a b c e g d is l = rw (ne_eqb f 119 a, ne_eqb f 111 b, ne_eqb f 120 c, ne_eqb f 110 e, ne_eqb f 109 g) (rw is at l)

  pub unsaid-words : f ≡ 111 → Laid t u n r (45 ∷ []) → Laid t u n r (unsaid f)
  unsaid-words q l = rw q l

  pub unsaid-number : f ≡ 109 → Laid t u n r (45 ∷ []) → Laid t u n r (unsaid f)
  unsaid-number q l = rw q l

  pub unsaid-flag : (f ≡ 111 → ⊥) → (f ≡ 109 → ⊥) → Laid t u n r (48 ∷ []) → Laid t u n r (unsaid f)
  unsaid-flag a b l = rw (ne_eqb f 111 a, ne_eqb f 109 b) l

pub ruleset said_laws = (said-words, said-optional, said-hex, said-number, said_maybe, said-flag, unsaid-words, unsaid-number, unsaid-flag)

-- ---- an attribute
module _ (body name : List ℕ) (f : ℕ) (t u : List ℕ) (n r : ℕ) where
  pub told-missing : has name (split 34 body) ≡ false → Laid t u n r (unsaid f) → Laid t u n r (told f name (split 34 body))
  told-missing q l = rw q l

  pub told_there : (p : Part) → has name (split 34 body) ≡ true → Spans body name p
      → Laid t u n r (says f (take p.len (take (length body - p.start) (drop p.start body)))) → Laid t u n r (told f name (split 34 body))
  told_there p q s l =
      let m : Laid t u n r (says f (take p.len (drop p.start body))) = rw tail at l in
      rw q (rw s.is at m)

module _ (body name : List ℕ) (p : Part) (s : Spans body name p) where
  pub span_start : p.start ≤ length body
  span_start = omega (arith, s.inside)

  pub span_end : p.len ≤ length (take (length body - p.start) (drop p.start body))
  span_end = rw (tail, length-drop) (omega (arith, s.inside))

pub ruleset told_laws = (told-missing, told_there, span_start, span_end)

module _ (e : List ℕ) (ps : List (List ℕ)) (f : ℕ) (form : f ≡ form_of e) (t : List ℕ) (n : ℕ) where
  pub attribute_dropped : f < 58 → Laid t t n n (part (form_of e) (name_of e) ps)
  attribute_dropped h = rw (← form, lt-ltb f 58 h) (laid_none t n)

  module _ (kept : 58 ≤ f) (a : ℕ) (name : drop a e ≡ name_of e) (v : List ℕ) (r : ℕ) where
    pub attribute-further : f ≡ 103 → Laid t v n r (told f (take (length e - a) (drop a e)) ps) → Laid t v n r (part (form_of e) (name_of e) ps)
    attribute-further q l =
        let m : Laid t v n r (told f (name_of e) ps) = rw name at (rw tail at l) in
        rw (← form, le-ltb f 58 kept, eq-eqb f 103 q) m

    pub attribute-field : (f ≡ 103 → ⊥) → (u : List ℕ) (m : ℕ) → Laid t u n m (9 ∷ [])
        → Laid u v m r (told f (take (length e - a) (drop a e)) ps)
        → Laid t v n r (part (form_of e) (name_of e) ps)
    attribute-field q u m one l =
        let k : Laid u v m r (told f (name_of e) ps) = rw name at (rw tail at l) in
        rw (← form, le-ltb f 58 kept, ne_eqb f 103 q) (laid_then t u v n m r (9 ∷ []) (told f (name_of e) ps) one k)

pub ruleset attribute_laws = (attribute_dropped, attribute-further, attribute-field)

-- ---- the fields of a line
module _ (t₀ : List ℕ) (n₀ : ℕ) (row : List ℕ) (ps : List (List ℕ)) (t : List ℕ) (n : ℕ) (rest : List ℕ)
    (go : Going t₀ n₀ (fields_of (drop 1 (fields row)) ps) t n (fields_of (drop 1 (fields rest)) ps))
    (r : Option (ℕ × ℕ)) (is : Follows rest r) where
  pub fields-last : r ≡ None → Laid t₀ t n₀ n (fields_of (drop 1 (fields row)) ps)
  fields-last q = going_done t₀ n₀ (fields_of (drop 1 (fields row)) ps) t n (fields_of (drop 1 (fields rest)) ps) go (rw (entry_last rest r is q))

  pub fields-more : (a len : ℕ) → r ≡ Some (a, len) → (u : List ℕ) (m : ℕ)
      → Laid t u n m (part (form_of (take len (take (length rest - a) (drop a rest)))) (name_of (take len (take (length rest - a) (drop a rest)))) ps)
      → Going t₀ n₀ (fields_of (drop 1 (fields row)) ps) u m (fields_of (drop 1 (fields (take (length rest - a) (drop a rest)))) ps)
  fields-more a len q u m l =
      going_on t₀ n₀ (fields_of (drop 1 (fields row)) ps) t n (fields_of (drop 1 (fields rest)) ps)
      (part (form_of (take len (take (length rest - a) (drop a rest)))) (name_of (take len (take (length rest - a) (drop a rest)))) ps)
      (fields_of (drop 1 (fields (take (length rest - a) (drop a rest)))) ps) u m go (ap (λ es. fields_of es ps) (entry_is rest r is a len q)) l

pub ruleset fields_laws = (going_start, fields-last, fields-more, entry_laws)

pub ruleset laws = (byte_laws, part_laws, parts_laws, words_laws, number_laws, said_laws, told_laws, attribute_laws, fields_laws)
