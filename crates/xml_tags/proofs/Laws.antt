-- Laws of tags and their attributes. Assumes nothing.
use mathlib.Core.Path.{◌≡◌, refl, sym, ap, ◌∙◌}
use mathlib.Core.Bool.{Bool, true, false, cond, not, ◌&&◌, ◌||◌}
use mathlib.Core.List.{List, [], ◌∷◌}
use Prim.Native.Nat.{ℕ, suc, ◌+◌, ◌-◌, ◌^◌, ◌≤◌, ◌<◌}
use native.Mathlib.Omega.{arith}
use mir.Val.{Fits}
use mir.Syntax.{w64}
use lib.Dec.{eqb}
use lib.ListN.{length, get_or, take, drop, length-drop}
use lib.Seq.{drop-drop, length-take-le}
use borrow.Author.Tests.{le-leb, lt-leb, lt-ltb, le-ltb, eq-eqb, ne_eqb}
use Rattle.laws.proofs.Lists.{next, done, tail}
use Rattle.text.specs.Text.{split, fields, same}
use Rattle.text.specs.Scan.{cut}
use Rattle.text.specs.declared.Part.{Part}
use Rattle.text.proofs.Laws.{split-last, split-more, front_count}
use Rattle.text.proofs.Printing.{split-long}
use Rattle.readers.specs.Fields.{IsField}
use Rattle.xml_schema.specs.Schema.{elements, table, entries_of, element_of, form_of, name_of, form_in, is_optional, Follows}
use Rattle.xml_schema.proofs.Laws.{entry_last, entry_is, entry_laws, row_end, row_fits, row_is}
use Rattle.xml_values.specs.Scan.{lead, skip, white, word_len, word, after}
use Rattle.xml_values.specs.Values.{valid}
use Rattle.xml_tags.specs.Tags.{tag_end, name_in, is_equals, is_name, is_end, has, value_of, is_new, fault, whole, judged, opened, shutting, tag_from}
use Rattle.xml_tags.specs.Tags.{tag_of, last, closed}
use Rattle.xml_tags.specs.Steps.{Lone, Halved, Spans, grade, UpTo, Inside}
use Rattle.xml_tags.specs.declared.Tag.{Tag}
use Rattle.xml_tags.specs.declared.Tag.TheVariants.{Bad, Shut, Open}
use Rattle.xml_tags.specs.declared.Grade.{Grade}
use Rattle.xml_tags.specs.declared.Grade.TheVariants.{Right, WrongName, WrongValue}
use Rattle.xml_tags.specs.declared.Pair.{Pair}
use Rattle.xml_tags.specs.declared.Pair.TheVariants.{Last, Odd, Two}
use Rattle.std.specs.Prelude.{Option, Some, None}

-- ---- the end of a tag
module _ (s : List ℕ) (q : Bool) (i : ℕ) (inv : tag_end false s ≡ i + tag_end q (drop i s)) where
  pub end_quote : i < length s → get_or s i 0 ≡ 34 → tag_end false s ≡ i + 1 + tag_end (not q) (drop (i + 1) s)
  end_quote h e = rw (inv, next s i h, e) (by q)
    where
      by : (q : Bool) → i + cond (not q && false) 0 (suc (tag_end (not q) (drop (i + 1) s))) ≡ i + 1 + tag_end (not q) (drop (i + 1) s)
      by true = omega arith
      by false = omega arith

  pub end_inside : i < length s → (get_or s i 0 ≡ 34 → ⊥) → q ≡ true → tag_end false s ≡ i + 1 + tag_end q (drop (i + 1) s)
  end_inside h e t = rw (inv, next s i h, ne_eqb _ _ e, t) (omega arith)

  pub end_hit : i < length s → (get_or s i 0 ≡ 34 → ⊥) → q ≡ false → get_or s i 0 ≡ 62 → i ≡ tag_end false s
  end_hit h e t b = rw (inv, next s i h, t, eq-eqb _ _ b) (omega arith)

  pub end_more : i < length s → (get_or s i 0 ≡ 34 → ⊥) → q ≡ false → (get_or s i 0 ≡ 62 → ⊥)
      → tag_end false s ≡ i + 1 + tag_end q (drop (i + 1) s)
  end_more h e t b = rw (inv, next s i h, t, ne_eqb _ _ e, ne_eqb _ _ b) (omega arith)

  pub end_done : i ≤ length s → length s ≤ i → length s ≡ tag_end false s
  end_done l h = rw (inv, done s i h) (omega arith)

pub ruleset end_laws = (end_quote, end_inside, end_hit, end_more, end_done)

-- ---- what stands at the front of the attributes
module _ (r : List ℕ) (e : ℕ) (at-e : e ≡ cut 34 r) (in_e : e ≤ length r) where
  pub pair_last : e ≡ length r → Halved r Last
  pair_last l = split-last 34 r (sym at-e ∙ l)

  module _ (more : e ≡ length r → ⊥) (f : ℕ) (at_f : f ≡ cut 34 (take (length r - (e + 1)) (drop (e + 1) r)))
      (in_f : f ≤ length (take (length r - (e + 1)) (drop (e + 1) r))) where
    first_piece : split 34 r ≡ take e r ∷ split 34 (drop (e + 1) r)
    first_piece = rw at-e (split-more 34 r (rw (← at-e) (omega (arith, more))))

    at_f' : f ≡ cut 34 (drop (e + 1) r)
    at_f' = rw tail at at_f

    pub pair_odd : f ≡ length (take (length r - (e + 1)) (drop (e + 1) r)) → Halved r Odd
    pair_odd l =
        let l' : f ≡ length (drop (e + 1) r) = rw tail at l in
        record { name_piece = take e r; value_piece = drop (e + 1) r; are = rw (first_piece, split-last 34 (drop (e + 1) r) (sym at_f' ∙ l')) }

    pub pair_two : (f ≡ length (take (length r - (e + 1)) (drop (e + 1) r)) → ⊥) → Halved r (Two e f)
    pair_two m =
        let v : f < length (take (length r - (e + 1)) (drop (e + 1) r)) = omega (arith, m) in
        let w : f < length r - (e + 1) = rw length-drop at (rw tail at v) in
        let d : e + 1 + (f + 1) ≡ e + f + 2 = omega arith in
        (omega arith, rw (first_piece, split-more 34 (drop (e + 1) r) (rw (← at_f', length-drop) w), ← at_f', drop-drop, d))

pub pair_within : (r : List ℕ) (p : Pair) (e f : ℕ) → Halved r p → p ≡ Two e f → e + f + 2 ≤ length r
pair_within r Last e f h q = absurd (let z : ◌≡◌ {A = ℕ} 0 1 = cc in omega arith)
pair_within r Odd e f h q = absurd (let z : ◌≡◌ {A = ℕ} 0 1 = cc in omega arith)
pair_within r (Two d g) e f h q = let y : d ≡ e = cc in let z : g ≡ f = cc in rw (← y, ← z) h.0

pub ruleset pair_laws = (pair_last, pair_odd, pair_two)

-- ---- names
pub equals_none : (s : List ℕ) → length s < 1 → false ≡ is_equals s
equals_none [] h = refl
equals_none (x ∷ xs) h = absurd (omega arith)

pub equals_rest : (s : List ℕ) (r : Bool) → r ≡ white (take (length s - 1) (drop 1 s)) → get_or s 0 0 ≡ 61 → r ≡ is_equals s
equals_rest s r e q = let e' : r ≡ white (drop 1 s) = rw tail at e in rw (eq-eqb (get_or s 0 0) 61 q) e'

pub equals_not : (s : List ℕ) → (get_or s 0 0 ≡ 61 → ⊥) → false ≡ is_equals s
equals_not s q = rw (ne_eqb (get_or s 0 0) 61 q)

pub name-none : (p : List ℕ) (l : ℕ) → l ≡ lead p → l < 1 → false ≡ is_name p
name-none p l e h = rw (← e, lt-leb 1 l h)

module _ (p : List ℕ) (l : ℕ) (at-l : l ≡ lead p) (k : ℕ) (at-k : k ≡ word_len (take (length p - l) (drop l p))) where
  s_is : take (length p - l) (drop l p) ≡ skip p
  s_is = rw (tail, at-l)

  k_is : k ≡ word_len (skip p)
  k_is = rw s_is at at-k

  pub name-rest : (m : ℕ) → m ≡ lead (take (length (take (length p - l) (drop l p)) - k) (drop k (take (length p - l) (drop l p)))) → (r : Bool)
      → r ≡ is_equals (take (length (take (length (take (length p - l) (drop l p)) - k) (drop k (take (length p - l) (drop l p)))) - m)
      (drop m (take (length (take (length p - l) (drop l p)) - k) (drop k (take (length p - l) (drop l p))))))
      → 1 ≤ l → r ≡ is_name p
  name-rest m at-m r is h =
      let t-is : take (length (take (length p - l) (drop l p)) - k) (drop k (take (length p - l) (drop l p)))
      ≡ after (skip p) = tail (take (length p - l) (drop l p)) k ∙ rw (s_is, k_is) in
      let m_is : m ≡ lead (after (skip p)) = rw t-is at at-m in
      let is' : r ≡ is_equals (drop m (after (skip p))) = rw tail at (rw t-is at is) in
      rw (le-leb 1 (lead p) (rw (← at-l) h)) (rw m_is at is')

  pub word_is : take k (take (length p - l) (drop l p)) ≡ name_in p
  word_is = rw (s_is, k_is)

module _ (p m : List ℕ) (is : m ≡ name_in p) where
  pub named_as : (n : List ℕ) (r : Bool) → r ≡ same m n → r ≡ same (name_in p) n
  named_as n r h = h ∙ ap (λ z. same z n) is

  pub named-form : (es : List (List ℕ)) (r : ℕ) → r ≡ form_in es m → r ≡ form_in es (name_in p)
  named-form es r h = h ∙ ap (form_in es) is

  pub named_again : (ps : List (List ℕ)) (r : Bool) → r ≡ has m ps → r ≡ has (name_in p) ps
  named_again ps r h = h ∙ ap (λ n. has n ps) is

pub ruleset name_laws = (equals_none, equals_rest, equals_not, name-none, name-rest, word_is, named_as, named-form, named_again, front_count)

-- ---- one attribute after another: at stands at the start of one
module _ (body n : List ℕ) (at : ℕ) (inv : has n (split 34 body) ≡ has n (split 34 (drop at body))) (p : Pair)
    (is : Halved (take (length body - at) (drop at body)) p) where
  is' : Halved (drop at body) p
  is' = rw tail at is

  by_pair : (p : Pair) → Halved (drop at body) p → ((e f : ℕ) → p ≡ Two e f → ⊥) → has n (split 34 body) ≡ false
  by_pair Last h m = rw (inv, h)
  by_pair Odd h m = rw (inv, h.are)
  by_pair (Two e f) h m = absurd (m e f refl)

  pub has_none : ((e f : ℕ) → p ≡ Two e f → ⊥) → has n (split 34 body) ≡ false
  has_none m = by_pair p is' m

  module _ (e f : ℕ) (q : p ≡ Two e f) (x : Bool) (named-n : x ≡ same (name_in (take e (take (length body - at) (drop at body)))) n) where
    two : (e + f + 2 ≤ length (drop at body)) ×
        (split 34 (drop at body) ≡ take e (drop at body) ∷ take f (drop (e + 1) (drop at body)) ∷ split 34 (drop (e + f + 2) (drop at body)))
    two = rw q at is'

    x_is : x ≡ same (name_in (take e (drop at body))) n
    x_is = rw tail at named-n

    has_step : (ps : List (List ℕ)) → 1 ≤ length ps → (a v : List ℕ) → has n (a ∷ v ∷ ps) ≡ (same (name_in a) n || has n ps)
    has_step [] h a v = absurd (omega arith)
    has_step (y ∷ ys) h a v = refl

    has_on : has n (split 34 body) ≡ (x || has n (split 34 (drop (e + f + 2) (drop at body))))
    has_on =
        let s : has n (take e (drop at body) ∷ take f (drop (e + 1) (drop at body)) ∷ split 34 (drop (e + f + 2) (drop at body)))
        ≡ (same (name_in (take e (drop at body))) n || has n (split 34 (drop (e + f + 2) (drop at body)))) =
        has_step (split 34 (drop (e + f + 2) (drop at body))) (split-long 34 (drop (e + f + 2) (drop at body))) (take e (drop at body))
        (take f (drop (e + 1) (drop at body))) in
        inv ∙ ap (has n) two.1 ∙ rw (← x_is) at s

    pub has_it : x ≡ true → has n (split 34 body) ≡ true
    has_it t = has_on ∙ rw t

    pub has_more : x ≡ false → has n (split 34 body) ≡ has n (split 34 (drop (at + e + f + 2) body))
    has_more t =
        let d : at + (e + f + 2) ≡ at + e + f + 2 = omega arith in
        rw t at (rw (drop-drop, d) at has_on)

module _ (body : List ℕ) (at : ℕ) (in-at : at ≤ length body) (p : Pair) (is : Halved (take (length body - at) (drop at body)) p) (e f : ℕ)
    (q : p ≡ Two e f) where
  pair_room : e + f + 2 ≤ length body - at
  pair_room = let h : e + f + 2 ≤ length (drop at body) = pair_within (drop at body) p e f (rw tail at is) q in rw length-drop at h

  pub pair_in : at + e + f + 2 ≤ length body
  pair_in = omega (arith, pair_room)

  module _ (short : length body < 2 ^ 64) where
    pub pair_fits : Fits w64 (at + e)
    pair_fits = omega (arith, pair_room)

    pub pair_fits_2 : Fits w64 (at + e + f)
    pair_fits_2 = omega (arith, pair_room)

    pub pair_fits_3 : Fits w64 (at + e + f + 2)
    pair_fits_3 = omega (arith, pair_room)

  pub pair_less : length body - (at + e + f + 2) < length body - at
  pair_less = omega (arith, pair_room)

  pub pair_name : e ≤ length (take (length body - at) (drop at body))
  pair_name = rw (tail, length-drop) (omega (arith, pair_room))

  pub pair_count : e ≡ length (take e (take (length body - at) (drop at body)))
  pair_count = front_count (take (length body - at) (drop at body)) e pair_name

pub ruleset has_laws = (has_none, has_it, has_more, pair_in, pair_fits, pair_fits_2, pair_fits_3, pair_less, pair_name, pair_count)

-- ---- the value of an attribute
module _ (body n : List ℕ) (at : ℕ) (inv : value_of n (split 34 body) ≡ value_of n (split 34 (drop at body))) (p : Pair)
    (is : Halved (take (length body - at) (drop at body)) p) where
  is_here : Halved (drop at body) p
  is_here = rw tail at is

  module _ (e f : ℕ) (q : p ≡ Two e f) (x : Bool) (named-n : x ≡ same (name_in (take e (take (length body - at) (drop at body)))) n) where
    value_step : (ps : List (List ℕ)) → 1 ≤ length ps → (a v : List ℕ) → value_of n (a ∷ v ∷ ps) ≡ cond (same (name_in a) n) v (value_of n ps)
    value_step [] h a v = absurd (omega arith)
    value_step (y ∷ ys) h a v = refl

    two_here : (e + f + 2 ≤ length (drop at body)) ×
        (split 34 (drop at body) ≡ take e (drop at body) ∷ take f (drop (e + 1) (drop at body)) ∷ split 34 (drop (e + f + 2) (drop at body)))
    two_here = rw q at is_here

    x_here : x ≡ same (name_in (take e (drop at body))) n
    x_here = rw tail at named-n

    value_on : value_of n (split 34 body) ≡ cond x (take f (drop (e + 1) (drop at body))) (value_of n (split 34 (drop (e + f + 2) (drop at body))))
    value_on =
        let s : value_of n (take e (drop at body) ∷ take f (drop (e + 1) (drop at body)) ∷ split 34 (drop (e + f + 2) (drop at body)))
        ≡ cond (same (name_in (take e (drop at body))) n) (take f (drop (e + 1) (drop at body))) (value_of n (split 34 (drop (e + f + 2) (drop at body)))) =
        value_step (split 34 (drop (e + f + 2) (drop at body))) (split-long 34 (drop (e + f + 2) (drop at body))) (take e (drop at body))
        (take f (drop (e + 1) (drop at body))) in
        inv ∙ ap (value_of n) two_here.1 ∙ rw (← x_here) at s

    pub value_it : at ≤ length body → x ≡ true → Spans body n (record { start = at + e + 1; len = f })
    value_it in-at t =
        let d : at + (e + 1) ≡ at + e + 1 = omega arith in
        let room : e + f + 2 ≤ length body - at = rw length-drop at two_here.0 in
        record { inside = omega arith; is = sym (rw t at (rw (drop-drop, d) at value_on)) }

    pub value-more : x ≡ false → value_of n (split 34 body) ≡ value_of n (split 34 (drop (at + e + f + 2) body))
    value-more t =
        let d : at + (e + f + 2) ≡ at + e + f + 2 = omega arith in
        let w : value_of n (split 34 body) ≡ value_of n (split 34 (drop (e + f + 2) (drop at body))) = rw t at value_on in
        rw (drop-drop, d) at w

module _ (body : List ℕ) (at : ℕ) (in-at : at ≤ length body) (p : Pair) (is : Halved (take (length body - at) (drop at body)) p) (e f : ℕ)
    (q : p ≡ Two e f) (short : length body < 2 ^ 64) where
  pub pair_fits_4 : Fits w64 (at + e + 1)
  pair_fits_4 = omega (arith, pair_room body at in-at p is e f q)

pub ruleset value_laws = (value_it, value-more, pair_fits_4)

-- ---- what is wrong with an attribute
module _ (form : ℕ) (p : List ℕ) (ps : List (List ℕ)) (a : Bool) (named : a ≡ is_name p) where
  pub new_unnamed : a ≡ false → false ≡ is_name p && (not (eqb form 0) && not (has (name_in p) ps))
  new_unnamed t = rw (← named, t)

  module _ (t : a ≡ true) where
    pub new_unknown : form ≡ 0 → false ≡ is_name p && (not (eqb form 0) && not (has (name_in p) ps))
    new_unknown z = rw (← named, t, z)

    module _ (known : form ≡ 0 → ⊥) (b : Bool) (again : b ≡ has (name_in p) ps) where
      pub new_again : b ≡ true → false ≡ is_name p && (not (eqb form 0) && not (has (name_in p) ps))
      new_again u = rw (← named, t, ne_eqb form 0 known, ← again, u)

      pub new_is : b ≡ false → true ≡ is_name p && (not (eqb form 0) && not (has (name_in p) ps))
      new_is u = rw (← named, t, ne_eqb form 0 known, ← again, u)

module _ (es : List (List ℕ)) (r : List ℕ) (e f : ℕ) (room : e + f + 2 ≤ length r) (form : ℕ) (form_is : form ≡ form_in es (name_in (take e r)))
    (x : Bool) (new : x ≡ is_name (take e r) &&
    (not (eqb form 0) && not (has (name_in (take e r)) (split 34 (take (length r - (e + 1 + f + 1)) (drop (e + 1 + f + 1) r)))))) where
  new_now : x ≡ is_new es (take e r) (split 34 (drop (e + f + 2) r))
  new_now =
      let d : e + 1 + f + 1 ≡ e + f + 2 = omega arith in
      let n : x ≡ is_new es (take e r) (split 34 (drop (e + 1 + f + 1) r)) = rw form_is at (rw tail at new) in
      rw d at n

  pub grade-name : x ≡ false → WrongName ≡ grade es (take e r) (take f (drop (e + 1) r)) (split 34 (drop (e + f + 2) r))
  grade-name t = rw (← new_now, t)

  module _ (t : x ≡ true) (y : Bool) (value : y ≡ valid form (take (e + 1 + f - (e + 1)) (drop (e + 1) r))) where
    value_now : y ≡ valid (form_in es (name_in (take e r))) (take f (drop (e + 1) r))
    value_now = let d : e + 1 + f - (e + 1) ≡ f = omega arith in rw form_is at (rw d at value)

    pub grade-right : y ≡ true → Right ≡ grade es (take e r) (take f (drop (e + 1) r)) (split 34 (drop (e + f + 2) r))
    grade-right u = rw (← new_now, t, ← value_now, u)

    pub grade-value : y ≡ false → WrongValue ≡ grade es (take e r) (take f (drop (e + 1) r)) (split 34 (drop (e + f + 2) r))
    grade-value u = rw (← new_now, t, ← value_now, u)

pub grade-count : (r : List ℕ) (e f : ℕ) → e + f + 2 ≤ length r → e ≡ length (take e r)
grade-count r e f h = front_count r e (omega arith)

pub end_empty : (r : List ℕ) (l : ℕ) (x : Bool) → l ≡ lead r → x ≡ same (take (length r - l) (drop l r)) [] → x ≡ true → true ≡ is_end r
end_empty r l x e is t = let i : x ≡ same (skip r) [] = rw e at (rw tail at is) in rw (← i, t)

pub end_slash : (r : List ℕ) (l : ℕ) (x y : Bool) → l ≡ lead r → x ≡ same (take (length r - l) (drop l r)) [] → x ≡ false
    → y ≡ same (take (length r - l) (drop l r)) (47 ∷ []) → y ≡ is_end r
end_slash r l x y e is t iy =
    let i : x ≡ same (skip r) [] = rw e at (rw tail at is) in
    let j : y ≡ same (skip r) (47 ∷ []) = rw e at (rw tail at iy) in
    rw (← i, t) j

pub ruleset grade_laws = (new_unnamed, new_unknown, new_again, new_is, grade-count, grade-name, grade-right, grade-value, end_empty, end_slash)

-- ---- the first fault
-- what follows the grade of the attribute a with the value v, which stands at place before ps
abbrev go_on : List (List ℕ) → ℕ → Grade → List ℕ → List ℕ → List (List ℕ) → Option ℕ
go_on es place Right a v ps = fault es (place + length a + length v + 2) ps
go_on es place WrongName a v ps = Some place
go_on es place WrongValue a v ps = Some (place + length a + 1)

fault_step : (es : List (List ℕ)) (place : ℕ) (ps : List (List ℕ)) → 1 ≤ length ps → (a v : List ℕ)
    → fault es place (a ∷ v ∷ ps) ≡ go_on es place (grade es a v ps) a v ps
fault_step es place [] h a v = absurd (omega arith)
fault_step es place (y ∷ ys) h a v = by (is_new es a (y ∷ ys)) (valid (form_in es (name_in a)) v)
  where
    by : (b c : Bool) → cond b (cond c (fault es (place + length a + length v + 2) (y ∷ ys)) (Some (place + length a + 1))) (Some place)
        ≡ go_on es place (cond b (cond c Right WrongValue) WrongName) a v (y ∷ ys)
    by true true = refl
    by true false = refl
    by false c = refl

module _ (es : List (List ℕ)) (body : List ℕ) (inside at : ℕ)
    (inv : fault es inside (split 34 body) ≡ fault es (inside + at) (split 34 (drop at body))) (p : Pair)
    (is : Halved (take (length body - at) (drop at body)) p) where
  is_now : Halved (drop at body) p
  is_now = rw tail at is

  module _ (q : p ≡ Last) (x : Bool) (end : x ≡ is_end (take (length body - at) (drop at body))) where
    one_piece : split 34 (drop at body) ≡ drop at body ∷ []
    one_piece = rw q at is_now

    end_now : x ≡ is_end (drop at body)
    end_now = rw tail at end

    pub fault_end : x ≡ true → None ≡ fault es inside (split 34 body)
    fault_end t = rw (inv, one_piece, ← end_now, t)

    pub fault-tail : x ≡ false → Some (inside + at) ≡ fault es inside (split 34 body)
    fault-tail t = rw (inv, one_piece, ← end_now, t)

  pub fault-odd : p ≡ Odd → Some (inside + at) ≡ fault es inside (split 34 body)
  fault-odd q = let h : Lone (split 34 (drop at body)) = rw q at is_now in rw (inv, h.are)

  module _ (e f : ℕ) (q : p ≡ Two e f) (g : Grade)
      (said : g ≡ grade es (take e (take (length body - at) (drop at body))) (take f (drop (e + 1) (take (length body - at) (drop at body))))
      (split 34 (drop (e + f + 2) (take (length body - at) (drop at body))))) where
    two_now : (e + f + 2 ≤ length (drop at body)) ×
        (split 34 (drop at body) ≡ take e (drop at body) ∷ take f (drop (e + 1) (drop at body)) ∷ split 34 (drop (e + f + 2) (drop at body)))
    two_now = rw q at is_now

    said_now : g ≡ grade es (take e (drop at body)) (take f (drop (e + 1) (drop at body))) (split 34 (drop (e + f + 2) (drop at body)))
    said_now = rw tail at said

    a_long : length (take e (drop at body)) ≡ e
    a_long = length-take-le e (drop at body) (omega (arith, two_now.0))

    v_long : length (take f (drop (e + 1) (drop at body))) ≡ f
    v_long = length-take-le f (drop (e + 1) (drop at body)) (rw length-drop (omega (arith, two_now.0)))

    fault-on : fault es inside (split 34 body)
        ≡ go_on es (inside + at) g (take e (drop at body)) (take f (drop (e + 1) (drop at body))) (split 34 (drop (e + f + 2) (drop at body)))
    fault-on =
        let s : fault es (inside + at) (take e (drop at body) ∷ take f (drop (e + 1) (drop at body)) ∷ split 34 (drop (e + f + 2) (drop at body)))
        ≡ go_on es (inside + at)
        (grade es (take e (drop at body)) (take f (drop (e + 1) (drop at body))) (split 34 (drop (e + f + 2) (drop at body)))) (take e (drop at body))
        (take f (drop (e + 1) (drop at body))) (split 34 (drop (e + f + 2) (drop at body))) =
        fault_step es (inside + at) (split 34 (drop (e + f + 2) (drop at body))) (split-long 34 (drop (e + f + 2) (drop at body))) (take e (drop at body))
        (take f (drop (e + 1) (drop at body))) in
        inv ∙ ap (fault es (inside + at)) two_now.1 ∙ rw (← said_now) at s

    pub fault-name : g ≡ WrongName → Some (inside + at) ≡ fault es inside (split 34 body)
    fault-name t = sym (rw t at fault-on)

    pub fault-value : g ≡ WrongValue → Some (inside + at + e + 1) ≡ fault es inside (split 34 body)
    fault-value t = sym (rw a_long at (rw t at fault-on))

    pub fault-more : g ≡ Right → fault es inside (split 34 body) ≡ fault es (inside + (at + e + f + 2)) (split 34 (drop (at + e + f + 2) body))
    fault-more t =
        let d : at + (e + f + 2) ≡ at + e + f + 2 = omega arith in
        let m : inside + at + e + f + 2 ≡ inside + (at + e + f + 2) = omega arith in
        let w : fault es inside (split 34 body)
        ≡ fault es (inside + at + length (take e (drop at body)) + length (take f (drop (e + 1) (drop at body))) + 2)
        (split 34 (drop (e + f + 2) (drop at body))) = rw t at fault-on in
        rw (drop-drop, d, m) at (rw (a_long, v_long) at w)

module _ (body : List ℕ) (inside at : ℕ) (in-at : at ≤ length body) (p : Pair) (is : Halved (take (length body - at) (drop at body)) p) (e f : ℕ)
    (q : p ≡ Two e f) (short : inside + length body < 2 ^ 64) where
  pub fault-fits : Fits w64 (inside + at + e)
  fault-fits = omega (arith, pair_room body at in-at p is e f q)

  pub fault_in : inside + at + e + 1 ≤ inside + length body
  fault_in = omega (arith, pair_room body at in-at p is e f q)

  pub fault-fits_2 : Fits w64 (inside + at + e + 1)
  fault-fits_2 = omega (arith, pair_room body at in-at p is e f q)

pub pair_asks : (r : List ℕ) (p : Pair) (e f : ℕ) → Halved r p → p ≡ Two e f → e + f + 2 ≤ length r
pair_asks r p e f h q = pair_within r p e f h q

pub ruleset fault_laws = (fault_end, fault-tail, fault-odd, fault-name, fault-value, fault-more, fault-fits, fault-fits_2, fault_in, pair_asks)

-- ---- the attributes that must be there
module _ (f : ℕ) where
  pub optional-words : f ≡ 111 → true ≡ is_optional f
  optional-words q = rw q

  pub optional-number : f ≡ 109 → true ≡ is_optional f
  optional-number q = rw q

  pub optional-flag : f ≡ 102 → true ≡ is_optional f
  optional-flag q = rw q

  pub optional-further : f ≡ 103 → true ≡ is_optional f
  optional-further q = rw q

  pub optional-not : (f ≡ 111 → ⊥) → (f ≡ 109 → ⊥) → (f ≡ 102 → ⊥) → (f ≡ 103 → ⊥) → false ≡ is_optional f
  optional-not a b c d = rw (ne_eqb f 111 a, ne_eqb f 109 b, ne_eqb f 102 c, ne_eqb f 103 d)

module _ (e : List ℕ) (ps : List (List ℕ)) (f : ℕ) (form : f ≡ form_of e) (x : Bool) (is : x ≡ is_optional f) where
  optional_now : x ≡ is_optional (form_of e)
  optional_now = is ∙ ap is_optional form

  pub held-optional : x ≡ true → true ≡ is_optional (form_of e) || has (name_of e) ps
  held-optional t = rw (← optional_now, t)

  pub held_there : x ≡ false → (a : ℕ) → drop a e ≡ name_of e → (y : Bool) → y ≡ has (take (length e - a) (drop a e)) ps
      → y ≡ is_optional (form_of e) || has (name_of e) ps
  held_there t a q y h = let k : y ≡ has (name_of e) ps = rw q at (rw tail at h) in rw (← optional_now, t) k

-- one entry after another, in what is left of the row
module _ (row : List ℕ) (ps : List (List ℕ)) (rest : List ℕ) (inv : whole (drop 1 (fields row)) ps ≡ whole (drop 1 (fields rest)) ps)
    (r : Option (ℕ × ℕ)) (is : Follows rest r) where
  pub whole-last : r ≡ None → true ≡ whole (drop 1 (fields row)) ps
  whole-last q = rw (inv, entry_last rest r is q)

  module _ (a len : ℕ) (q : r ≡ Some (a, len)) (x : Bool)
      (held : x ≡ is_optional (form_of (take len (take (length rest - a) (drop a rest))))
      || has (name_of (take len (take (length rest - a) (drop a rest)))) ps) where
    whole-on : whole (drop 1 (fields row)) ps ≡ x && whole (drop 1 (fields (take (length rest - a) (drop a rest)))) ps
    whole-on = inv ∙ rw (entry_is rest r is a len q, ← held)

    pub whole-not : x ≡ false → false ≡ whole (drop 1 (fields row)) ps
    whole-not t = sym (whole-on ∙ rw t)

    pub whole-more : x ≡ true → whole (drop 1 (fields row)) ps ≡ whole (drop 1 (fields (take (length rest - a) (drop a rest)))) ps
    whole-more t = whole-on ∙ rw t

pub ruleset whole_laws = (
  optional-words,
  optional-number,
  optional-flag,
  optional-further,
  optional-not,
  held-optional,
  held_there,
  whole-last,
  whole-not,
  whole-more,
  entry_laws,
)

-- ---- a tag
module _ (l : List ℕ) (w : ℕ) (at-w : w ≡ word_len l) (k : ℕ) (is-k : k ≡ element_of (take w l)) (place : ℕ) where
  k_word : k ≡ element_of (word l)
  k_word = rw at-w at is-k

  body_is : take (length l - w) (drop w l) ≡ after l
  body_is = rw (tail, at-w)

  pub open_none : 13 ≤ k → Bad place ≡ opened place l
  open_none h = rw (← k_word, le-ltb k 13 h)

  pub shut_none : 13 ≤ k → Bad place ≡ shutting place l
  shut_none h = rw (← k_word, le-ltb k 13 h)

  module _ (h : k < 13) where
    module _ (y : Bool) (is_y : y ≡ white (take (length l - w) (drop w l))) where
      y_is : y ≡ white (after l)
      y_is = rw body_is at is_y

      pub shut_is : y ≡ true → Shut k ≡ shutting place l
      shut_is u = rw (← k_word, lt-ltb k 13 h, ← y_is, u)

      pub shut_bad : y ≡ false → Bad place ≡ shutting place l
      shut_bad u = rw (← k_word, lt-ltb k 13 h, ← y_is, u)

    pub open_is : (r : Tag) → r ≡ judged k (entries_of k) place (place + 1 + w) (split 34 (take (length l - w) (drop w l))) → r ≡ opened place l
    open_is r is =
        let a : r ≡ judged k (entries_of k) place (place + 1 + w) (split 34 (after l)) = rw body_is at is in
        let b : r ≡ judged k (entries_of k) place (place + 1 + word_len l) (split 34 (after l)) = rw at-w at a in
        rw (← k_word, lt-ltb k 13 h) b

pub start_is : (k : ℕ) (p : Part) → IsField 10 k table p → (place inside : ℕ) (ps : List (List ℕ)) (r : Tag)
    → r ≡ judged k (drop 1 (fields (take (p.start + p.len - p.start) (drop p.start table)))) place inside ps
    → r ≡ judged k (entries_of k) place inside ps
start_is k p is place inside ps r e = e ∙ ap (λ fs. judged k (drop 1 fs) place inside ps) (row_is k p is)

module _ (k : ℕ) (es : List (List ℕ)) (place inside : ℕ) (ps : List (List ℕ)) (g : Option ℕ) (is-g : g ≡ fault es inside ps) where
  pub judged-fault : (n : ℕ) → g ≡ Some n → Bad n ≡ judged k es place inside ps
  judged-fault n u = rw (← is-g, u)

  module _ (u : g ≡ None) (y : Bool) (is_y : y ≡ whole es ps) where
    pub judged_is : y ≡ true → Open k ≡ judged k es place inside ps
    judged_is v = rw (← is-g, u, ← is_y, v)

    pub judged_lacks : y ≡ false → Bad place ≡ judged k es place inside ps
    judged_lacks v = rw (← is-g, u, ← is_y, v)

pub up_to_bad : (m n : ℕ) (g : Option ℕ) → UpTo m g → g ≡ Some n → n ≤ m
up_to_bad m n None h q = absurd (let z : ◌≡◌ {A = ℕ} 0 1 = cc in omega arith)
up_to_bad m n (Some k) h q = let z : k ≡ n = cc in rw (← z) h

inside-more : (m n : ℕ) (t : Tag) → m ≤ n → Inside m t → Inside n t
inside-more m n (Bad k) h i = omega arith
inside-more m n (Shut k) h i = tt
inside-more m n (Open k) h i = tt

pub inside-opened : (l : List ℕ) (w place : ℕ) (t : Tag) → w ≤ length l → Inside (place + 1 + w + length (take (length l - w) (drop w l))) t
    → Inside (place + 1 + length l) t
inside-opened l w place t h i =
    let d : place + 1 + w + length (take (length l - w) (drop w l)) ≡ place + 1 + length l = rw (tail, length-drop) (omega arith) in
    rw d at i

pub inside-shut : (c : List ℕ) (l : ℕ) (t : Tag) → l ≤ length c → Inside l t → Inside (length c) t
inside-shut c l t h i = inside-more l (length c) t h i

pub inside_open : (c : List ℕ) (l : ℕ) (t : Tag) → l ≤ length c → 2 ≤ length (take (length c - l) (drop l c))
    → Inside (l + 1 + length (take (length (take (length c - l) (drop l c)) - 1) (drop 1 (take (length c - l) (drop l c))))) t → Inside (length c) t
inside_open c l t h u i =
    let e : length (take (length c - l) (drop l c)) ≡ length c - l = rw (tail, length-drop) in
    let d : l + 1 + length (take (length (take (length c - l) (drop l c)) - 1) (drop 1 (take (length c - l) (drop l c)))) ≡ length c =
    rw (tail (take (length c - l) (drop l c)) 1, length-drop 1 (take (length c - l) (drop l c))) (omega arith) in
    rw d at i

pub ruleset inside_laws = (up_to_bad, inside-opened, inside-shut, inside_open)

pub open_room : (l : List ℕ) (w place : ℕ) → w ≤ length l → place + 1 + length l < 2 ^ 64
    → place + 1 + w + length (take (length l - w) (drop w l)) < 2 ^ 64
open_room l w place h s = rw (tail, length-drop) (omega arith)

short-from : (place : ℕ) (s : List ℕ) → length s < 2 → Bad place ≡ tag_from place s
unfolding elements
short-from place [] h = refl
short-from place (x ∷ []) h = by (eqb x 60)
  where
    by : (b : Bool) → Bad place ≡ cond b (Bad place) (Bad place)
    by true = refl
    by false = refl
short-from place (x ∷ y ∷ ys) h = absurd (omega arith)

module _ (c : List ℕ) (l : ℕ) (at-l : l ≡ lead c) where
  rest_is : take (length c - l) (drop l c) ≡ skip c
  rest_is = rw (tail, at-l)

  from_is : tag_from l (take (length c - l) (drop l c)) ≡ tag_of c
  from_is = rw rest_is (rw at-l)

  pub tag_short : length (take (length c - l) (drop l c)) < 2 → Bad l ≡ tag_of c
  tag_short h = short-from l (take (length c - l) (drop l c)) h ∙ from_is

  pub tag_none : (get_or (take (length c - l) (drop l c)) 0 0 ≡ 60 → ⊥) → Bad l ≡ tag_of c
  tag_none q = rw (ne_eqb (get_or (take (length c - l) (drop l c)) 0 0) 60 q) at from_is

  module _ (q : get_or (take (length c - l) (drop l c)) 0 0 ≡ 60) where
    pub tag_shut : (r : Tag) → r ≡ shutting l (take (length (take (length c - l) (drop l c)) - 2) (drop 2 (take (length c - l) (drop l c))))
        → get_or (take (length c - l) (drop l c)) 1 0 ≡ 47 → r ≡ tag_of c
    tag_shut r is p =
        let i : r ≡ shutting l (drop 2 (take (length c - l) (drop l c))) = is ∙ ap (shutting l) (tail (take (length c - l) (drop l c)) 2) in
        i ∙ rw (eq-eqb (get_or (take (length c - l) (drop l c)) 0 0) 60 q, eq-eqb (get_or (take (length c - l) (drop l c)) 1 0) 47 p) at from_is

    pub tag_open : (r : Tag) → r ≡ opened l (take (length (take (length c - l) (drop l c)) - 1) (drop 1 (take (length c - l) (drop l c))))
        → (get_or (take (length c - l) (drop l c)) 1 0 ≡ 47 → ⊥) → r ≡ tag_of c
    tag_open r is p =
        let i : r ≡ opened l (drop 1 (take (length c - l) (drop l c))) = is ∙ ap (opened l) (tail (take (length c - l) (drop l c)) 1) in
        i ∙ rw (eq-eqb (get_or (take (length c - l) (drop l c)) 0 0) 60 q, ne_eqb (get_or (take (length c - l) (drop l c)) 1 0) 47 p) at from_is

pub last_at : (s : List ℕ) → (length s ≡ 0 → ⊥) → last s ≡ get_or s (length s - 1) 0
last_at [] h = absurd (h refl)
last_at (x ∷ []) h = refl
last_at (x ∷ y ∷ ys) h =
    let d : suc (suc (length ys)) - 1 ≡ suc (suc (length ys) - 1) = omega arith in
    rw d (last_at (y ∷ ys) (λ e. omega arith))

pub closed_none : (c : List ℕ) → length c ≡ 0 → false ≡ closed c
closed_none [] h = refl
closed_none (x ∷ xs) h = absurd (omega arith)

pub closed_is : (c : List ℕ) → (length c ≡ 0 → ⊥) → get_or c (length c - 1) 0 ≡ 47 → true ≡ closed c
closed_is c h e = rw (last_at c h, eq-eqb (get_or c (length c - 1) 0) 47 e)

pub closed-not : (c : List ℕ) → (length c ≡ 0 → ⊥) → (get_or c (length c - 1) 0 ≡ 47 → ⊥) → false ≡ closed c
closed-not c h e = rw (last_at c h, ne_eqb (get_or c (length c - 1) 0) 47 e)

pub ruleset tag_laws = (
  open_none,
  shut_none,
  shut_is,
  shut_bad,
  open_is,
  judged-fault,
  judged_is,
  judged_lacks,
  open_room,
  tag_short,
  tag_none,
  tag_shut,
  tag_open,
  closed_none,
  closed_is,
  closed-not,
  inside_laws,
)

pub ruleset start_laws = (start_is, row_end, row_fits)

pub ruleset laws = (end_laws, pair_laws, name_laws, has_laws, value_laws, grade_laws, fault_laws, whole_laws, tag_laws, start_laws)
