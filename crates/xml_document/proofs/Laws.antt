-- Laws of a document. Assumes nothing.
use mathlib.Core.Path.{◌≡◌, refl, sym, ap, ◌∙◌}
use mathlib.Core.Bool.{Bool, true, false, cond, ◌&&◌}
use mathlib.Core.List.{List, [], ◌∷◌}
use Prim.Native.Nat.{ℕ, zero, suc, ◌+◌, ◌-◌, ◌^◌, ◌≤◌, ◌<◌}
use native.Mathlib.Nat.{add_assoc}
use native.Mathlib.Omega.{arith}
use mir.Val.{Fits}
use mir.Syntax.{w64}
use lib.Dec.{eqb, ltb}
use lib.ListN.{length, get_or, take, drop, length-drop}
use lib.Seq.{drop-drop, length-take-le}
use borrow.Author.Tests.{le-leb, lt-leb, eq-eqb, ne_eqb}
use Rattle.laws.proofs.Lists.{tail}
use Rattle.text.specs.Text.{same, split}
use Rattle.text.proofs.Laws.{front_count, and_false}
use Rattle.xml_schema.specs.Schema.{count, element_of, entries_of, parent_of}
use Rattle.xml_values.specs.Scan.{is_white, lead, skip, white, word_len, word, after}
use Rattle.xml_tags.specs.Tags.{chunks, tag_end, fault, whole, unless, judged, opened, shutting, tag_from, tag_of, closed}
use Rattle.xml_tags.specs.Steps.{Inside}
use Rattle.xml_tags.specs.declared.Tag.{Tag}
use Rattle.xml_tags.specs.declared.Tag.TheVariants.{Bad, Shut, Open}
use Rattle.xml_tags.proofs.Chunks.{chunks-last, chunks-more, chunks_some}
use Rattle.xml_tags.proofs.Laws.{last_at, tag_short}
use Rattle.xml_document.specs.Document.{deeper, shallower, enter, leave, moved, fault_at, last_fault, judge, is_declaration, declared, start, verdict}
use Rattle.xml_document.specs.Steps.{is_bad, Glimpsed, Goes}
use Rattle.std.specs.Prelude.{Option, Some, None}

-- ---- into a Param, and out of one
module _ (d : ℕ) where
  pub deeper_base : d ≡ 2 → 16 ≡ deeper d
  deeper_base q = rw q

  pub deeper-header : d ≡ 3 → 24 ≡ deeper d
  deeper-header q = rw q

  module _ (a : d ≡ 2 → ⊥) (b : d ≡ 3 → ⊥) where
    pub deeper-low : d < 16 → 15 ≡ deeper d
    deeper-low h = rw (ne_eqb d 2 a, ne_eqb d 3 b, lt-leb 16 d h)

    pub deeper_high : 16 ≤ d → 30 < d → 15 ≡ deeper d
    deeper_high h u = rw (ne_eqb d 2 a, ne_eqb d 3 b, le-leb 16 d h, lt-leb d 30 u)

    pub deeper-last : d ≡ 23 → 15 ≡ deeper d
    deeper-last q = rw q

    pub deeper-more : 16 ≤ d → d ≤ 30 → (d ≡ 23 → ⊥) → d + 1 ≡ deeper d
    deeper-more h u c = rw (ne_eqb d 2 a, ne_eqb d 3 b, le-leb 16 d h, le-leb d 30 u, ne_eqb d 23 c)

  pub shallower_base : d ≡ 16 → 2 ≡ shallower d
  shallower_base q = rw q

  pub shallower-header : d ≡ 24 → 3 ≡ shallower d
  shallower-header q = rw q

  module _ (a : d ≡ 16 → ⊥) (b : d ≡ 24 → ⊥) where
    pub shallower-low : d < 17 → 15 ≡ shallower d
    shallower-low h = rw (ne_eqb d 16 a, ne_eqb d 24 b, lt-leb 17 d h)

    pub shallower_high : 17 ≤ d → 31 < d → 15 ≡ shallower d
    shallower_high h u = rw (ne_eqb d 16 a, ne_eqb d 24 b, le-leb 17 d h, lt-leb d 31 u)

    pub shallower-more : 17 ≤ d → d ≤ 31 → d - 1 ≡ shallower d
    shallower-more h u = rw (ne_eqb d 16 a, ne_eqb d 24 b, le-leb 17 d h, le-leb d 31 u)

pub ruleset deeper_laws = (
  deeper_base,
  deeper-header,
  deeper-low,
  deeper_high,
  deeper-last,
  deeper-more,
  shallower_base,
  shallower-header,
  shallower-low,
  shallower_high,
  shallower-more,
)

-- ---- where an element leads
module _ (d k : ℕ) where
  pub enter-param : (r : ℕ) → r ≡ deeper d → k ≡ 4 → r ≡ enter d k
  enter-param r e q = rw (eq-eqb k 4 q) e

  module _ (n : k ≡ 4 → ⊥) where
    pub enter_is : (p : ℕ) → p ≡ parent_of k → d ≡ p → k ≡ enter d k
    enter_is p e q = rw (ne_eqb k 4 n, ← e, eq-eqb d p q)

    pub enter-not : (p : ℕ) → p ≡ parent_of k → (d ≡ p → ⊥) → 15 ≡ enter d k
    enter-not p e q = rw (ne_eqb k 4 n, ← e, ne_eqb d p q)

    pub leave-root : d ≡ k → k ≡ 0 → 14 ≡ leave d k
    leave-root q z = rw (ne_eqb k 4 n, eq-eqb d k q, eq-eqb k 0 z)

    pub leave_is : (p : ℕ) → p ≡ parent_of k → d ≡ k → (k ≡ 0 → ⊥) → p ≡ leave d k
    leave_is p e q z = rw (ne_eqb k 4 n, eq-eqb d k q, ne_eqb k 0 z) e

    pub leave-not : (d ≡ k → ⊥) → 15 ≡ leave d k
    leave-not q = rw (ne_eqb k 4 n, ne_eqb d k q)

  pub leave-param : (r : ℕ) → r ≡ shallower d → k ≡ 4 → r ≡ leave d k
  leave-param r e q = rw (eq-eqb k 4 q) e

-- ---- where a tag leads
module _ (d k e : ℕ) (c : List ℕ) (is : e ≡ enter d k) (b : Bool) (shut : b ≡ closed c) where
  pub opened-closed : b ≡ true → (r : ℕ) → r ≡ leave e k → r ≡ cond (closed c) (leave (enter d k) k) (enter d k)
  opened-closed t r q = rw (← shut, t, ← is) q

  pub opened_open : b ≡ false → e ≡ cond (closed c) (leave (enter d k) k) (enter d k)
  opened_open t = rw (← shut, t) is

module _ (d : ℕ) (c : List ℕ) (t : Tag) where
  pub moved_bad : (n : ℕ) → t ≡ Bad n → 15 ≡ moved d c t
  moved_bad n q = rw q

  pub moved-shut : (k r : ℕ) → t ≡ Shut k → r ≡ leave d k → r ≡ moved d c t
  moved-shut k r q e = rw q e

  pub moved_open : (k r : ℕ) → t ≡ Open k → r ≡ cond (closed c) (leave (enter d k) k) (enter d k) → r ≡ moved d c t
  moved_open k r q e = rw q e

  pub moved_tag : t ≡ tag_of c → (r : ℕ) → r ≡ moved d c t → r ≡ moved d c (tag_of c)
  moved_tag is r e = e ∙ ap (moved d c) is

pub ruleset moved_laws = (
  enter-param,
  enter_is,
  enter-not,
  leave-param,
  leave-root,
  leave_is,
  leave-not,
  opened-closed,
  opened_open,
  moved_bad,
  moved-shut,
  moved_open,
  moved_tag,
)

-- ---- where the fault is
module _ (place : ℕ) (c : List ℕ) (t : Tag) (is : t ≡ tag_of c) where
  pub at_bad : (n : ℕ) → t ≡ Bad n → place + n ≡ fault_at place c (tag_of c)
  at_bad n q = rw (← is, q)

  pub at_shut : (k l : ℕ) → l ≡ lead c → t ≡ Shut k → place + l ≡ fault_at place c (tag_of c)
  at_shut k l e q = rw (← is, q, e)

  pub at_open : (k l : ℕ) → l ≡ lead c → t ≡ Open k → place + l ≡ fault_at place c (tag_of c)
  at_open k l e q = rw (← is, q, e)

pub at_fits : (place n : ℕ) (c : List ℕ) (t : Tag) → Inside (length c) t → t ≡ Bad n → place + length c < 2 ^ 64 → Fits w64 (place + n)
at_fits place n c (Bad m) i q s = let z : m ≡ n = cc in omega arith
at_fits place n c (Shut k) i q s = absurd (let z : ◌≡◌ {A = ℕ} 0 1 = cc in omega arith)
at_fits place n c (Open k) i q s = absurd (let z : ◌≡◌ {A = ℕ} 0 1 = cc in omega arith)

module _ (d place : ℕ) (c : List ℕ) (l : ℕ) (e : l ≡ lead c) where
  pub last-fine : d ≡ 14 → l ≡ length c → None ≡ last_fault d place c
  last-fine q u = rw (eq-eqb d 14 q, ← e, eq-eqb l (length c) u)

  pub last_more : d ≡ 14 → (l ≡ length c → ⊥) → Some (place + l) ≡ last_fault d place c
  last_more q u = rw (eq-eqb d 14 q, ← e, ne_eqb l (length c) u)

  pub last_open : (d ≡ 14 → ⊥) → Some (place + l) ≡ last_fault d place c
  last_open q = rw (ne_eqb d 14 q, ← e)

pub ruleset place_laws = (at_bad, at_shut, at_open, at_fits, last-fine, last_more, last_open)

-- ---- the declaration
past : (l : List ℕ) (n : ℕ) → length l ≤ n → get_or l n 0 ≡ 0
past [] n h = refl
past (x ∷ xs) zero h = absurd (omega arith)
past (x ∷ xs) (suc n) h = past xs n (omega arith)

pub declaration_short : (c : List ℕ) → length c < 6 → false ≡ is_declaration c
declaration_short c h = rw (past c 5 (omega arith)) (sym (and_false (same (take 5 c) (0x3c ∷ 0x3f ∷ 0x78 ∷ 0x6d ∷ 0x6c ∷ []))))

module _ (c : List ℕ) (a : Bool) (begins : a ≡ same (take 5 c) (0x3c ∷ 0x3f ∷ 0x78 ∷ 0x6d ∷ 0x6c ∷ [])) where
  pub declaration_other : a ≡ false → false ≡ is_declaration c
  declaration_other t = rw (← begins, t)

  module _ (t : a ≡ true) (b : Bool) (parted : b ≡ is_white (get_or c 5 0)) where
    pub declaration_word : b ≡ false → false ≡ is_declaration c
    declaration_word u = rw (← begins, t, ← parted, u)

    pub declaration_is : b ≡ true → 6 ≤ length c → eqb (get_or c (length c - 1) 0) 63 ≡ is_declaration c
    declaration_is u h = rw (← begins, t, ← parted, u, last_at c (λ z. omega arith))

pub declaration_front : (c : List ℕ) → 6 ≤ length c → 5 ≡ length (take 5 c)
declaration_front c h = sym (length-take-le 5 c (omega arith))

declared_next : (c : List ℕ) (cs : List (List ℕ)) → 1 ≤ length cs → declared (c ∷ cs) ≡ cond (is_declaration c) (length c + 1) 0
declared_next c [] h = absurd (omega arith)
declared_next c (e ∷ cs) h = refl

module _ (x : List ℕ) (e : ℕ) (at-e : e ≡ tag_end false x) where
  pub start_none : e ≡ length x → 0 ≡ start x
  start_none l = rw (chunks-last false x (sym at-e ∙ l))

  module _ (in_e : e ≤ length x) (more : e ≡ length x → ⊥) (b : Bool) (is : b ≡ is_declaration (take e x)) where
    start-on : start x ≡ cond b (e + 1) 0
    start-on =
        let parted : chunks false x ≡ take e x ∷ chunks false (drop (e + 1) x) = rw at-e (chunks-more false x (rw (← at-e) (omega (arith, more)))) in
        let long : length (take e x) ≡ e = length-take-le e x in_e in
        let one : declared (take e x ∷ chunks false (drop (e + 1) x)) ≡ cond (is_declaration (take e x)) (length (take e x) + 1) 0 =
        declared_next (take e x) (chunks false (drop (e + 1) x)) (chunks_some false (drop (e + 1) x)) in
        ap declared parted ∙ one ∙ rw (← is, long)

    pub start_is : b ≡ true → e + 1 ≡ start x
    start_is t = sym (start-on ∙ rw t)

    pub start-not : b ≡ false → 0 ≡ start x
    start-not t = sym (start-on ∙ rw t)

    pub start_in : e + 1 ≤ length x
    start_in = omega (arith, more)

pub ruleset start_laws = (
  declaration_short,
  declaration_other,
  declaration_word,
  declaration_is,
  declaration_front,
  start_none,
  start_is,
  start-not,
  start_in,
  front_count,
)

-- ---- the document, tag by tag
pub record Sofar (x : List ℕ) (d at : ℕ) : Type 0 where
  pub inside : at ≤ length x
  pub same-verdict : verdict x ≡ judge d at (chunks false (drop at x))

pub judge_next : (d place : ℕ) (c : List ℕ) (cs : List (List ℕ)) → 1 ≤ length cs
    → judge d place (c ∷ cs)
    ≡ cond (eqb (moved d c (tag_of c)) 15) (Some (fault_at place c (tag_of c))) (judge (moved d c (tag_of c)) (place + length c + 1) cs)
judge_next d place c [] h = absurd (omega arith)
judge_next d place c (b ∷ cs) h = refl

pub check_start : (x : List ℕ) (at : ℕ) → at ≡ start x → at ≤ length x → Sofar x 13 at
check_start x at e h = record { inside = h; same-verdict = rw e }

module _ (x : List ℕ) (d at : ℕ) (so : Sofar x d at) (e : ℕ) (at-e : e ≡ tag_end false (take (length x - at) (drop at x)))
    (in_e : e ≤ length (take (length x - at) (drop at x))) where
  e_is : e ≡ tag_end false (drop at x)
  e_is = rw tail at at-e

  pub check_last : e ≡ length (take (length x - at) (drop at x)) → (r : Option ℕ) → r ≡ last_fault d at (take (length x - at) (drop at x))
      → r ≡ verdict x
  check_last l r is =
      let l' : e ≡ length (drop at x) = rw tail at l in
      let i : r ≡ last_fault d at (drop at x) = rw tail at is in
      i ∙ sym (so.same-verdict ∙ ap (judge d at) (chunks-last false (drop at x) (sym e_is ∙ l')))

  module _ (more : e ≡ length (take (length x - at) (drop at x)) → ⊥) where
    room : e < length x - at
    room = let v : e < length (take (length x - at) (drop at x)) = omega (arith, more) in rw length-drop at (rw tail at v)

    c_long : length (take e (drop at x)) ≡ e
    c_long = length-take-le e (drop at x) (rw length-drop (omega (arith, room)))

    parted : chunks false (drop at x) ≡ take e (drop at x) ∷ chunks false (drop (at + e + 1) x)
    parted = rw (add_assoc, ← drop-drop, e_is) (chunks-more false (drop at x) (rw (← e_is, length-drop) room))

    on : verdict x ≡ cond (eqb (moved d (take e (drop at x)) (tag_of (take e (drop at x)))) 15)
        (Some (fault_at at (take e (drop at x)) (tag_of (take e (drop at x)))))
        (judge (moved d (take e (drop at x)) (tag_of (take e (drop at x)))) (at + length (take e (drop at x)) + 1) (chunks false (drop (at + e + 1) x)))
    on = so.same-verdict ∙ ap (judge d at) parted
        ∙ judge_next d at (take e (drop at x)) (chunks false (drop (at + e + 1) x)) (chunks_some false (drop (at + e + 1) x))

    pub check_fits : length x < 2 ^ 64 → at + length (take e (take (length x - at) (drop at x))) < 2 ^ 64
    check_fits s =
        let c : length (take e (take (length x - at) (drop at x))) ≡ e = rw tail c_long in
        rw c (omega (arith, room))

    module _ (n : ℕ) (to : n ≡ moved d (take e (take (length x - at) (drop at x))) (tag_of (take e (take (length x - at) (drop at x))))) where
      to_is : n ≡ moved d (take e (drop at x)) (tag_of (take e (drop at x)))
      to_is = rw tail at to

      pub check_bad : n ≡ 15 → (p : ℕ)
          → p ≡ fault_at at (take e (take (length x - at) (drop at x))) (tag_of (take e (take (length x - at) (drop at x)))) → Some p ≡ verdict x
      check_bad z p is =
          let i : p ≡ fault_at at (take e (drop at x)) (tag_of (take e (drop at x))) = rw tail at is in
          sym (on ∙ rw (← to_is, eq-eqb n 15 z, i))

      pub check_more : (n ≡ 15 → ⊥) → Sofar x n (at + e + 1)
      check_more z = record {
        inside = omega (arith, room, so.inside);
        same-verdict = on ∙ rw (← to_is, ne_eqb n 15 z, c_long);
      }

    pub check_less : length x - (at + e + 1) < length x - at
    check_less = omega (arith, room)

pub check_room : (x : List ℕ) (at : ℕ) → at ≤ length x → length x < 2 ^ 64 → at + length (take (length x - at) (drop at x)) < 2 ^ 64
check_room x at h s = rw (tail, length-drop) (omega arith)

pub ruleset check_laws = (check_start, check_last, check_fits, check_bad, check_more, check_less, front_count, check_room)

-- ---- a tag with which nothing is wrong
module _ (place k : ℕ) (es : List (List ℕ)) (inside : ℕ) (ps : List (List ℕ)) where
  judged_sound : is_bad (judged k es place inside ps) ≡ false → Open k ≡ judged k es place inside ps
  judged_sound = by (fault es inside ps) (whole es ps)
    where
      by : (f : Option ℕ) (w : Bool) → is_bad (unless f (cond w (Open k) (Bad place))) ≡ false → Open k ≡ unless f (cond w (Open k) (Bad place))
      by (Some n) w h = absurd (let z : ◌≡◌ {A = ℕ} 0 1 = cc in omega arith)
      by None true h = refl
      by None false h = absurd (let z : ◌≡◌ {A = ℕ} 0 1 = cc in omega arith)

module _ (place : ℕ) (l : List ℕ) where
  opened_sound : is_bad (opened place l) ≡ false → Open (element_of (word l)) ≡ opened place l
  opened_sound = by (ltb (element_of (word l)) count)
    where
      by : (b : Bool)
          → is_bad (cond b (judged (element_of (word l)) (entries_of (element_of (word l))) place (place + 1 + word_len l) (split 34 (after l))) (Bad place))
          ≡ false
          → Open (element_of (word l))
          ≡ cond b (judged (element_of (word l)) (entries_of (element_of (word l))) place (place + 1 + word_len l) (split 34 (after l))) (Bad place)
      by true h = judged_sound place (element_of (word l)) (entries_of (element_of (word l))) (place + 1 + word_len l) (split 34 (after l)) h
      by false h = absurd (let z : ◌≡◌ {A = ℕ} 0 1 = cc in omega arith)

  shutting_sound : is_bad (shutting place l) ≡ false → Shut (element_of (word l)) ≡ shutting place l
  shutting_sound = by (ltb (element_of (word l)) count && white (after l))
    where
      by : (b : Bool) → is_bad (cond b (Shut (element_of (word l))) (Bad place)) ≡ false
          → Shut (element_of (word l)) ≡ cond b (Shut (element_of (word l))) (Bad place)
      by true h = refl
      by false h = absurd (let z : ◌≡◌ {A = ℕ} 0 1 = cc in omega arith)

module _ (place : ℕ) (s : List ℕ) where
  from-shut : get_or s 1 0 ≡ 47 → is_bad (tag_from place s) ≡ false → Shut (element_of (word (drop 2 s))) ≡ tag_from place s
  from-shut q = by (eqb (get_or s 0 0) 0x3c) (eqb (get_or s 1 0) 0x2f) (eq-eqb (get_or s 1 0) 47 q)
    where
      by : (a b : Bool) → b ≡ true → is_bad (cond a (cond b (shutting place (drop 2 s)) (opened place (drop 1 s))) (Bad place)) ≡ false
          → Shut (element_of (word (drop 2 s))) ≡ cond a (cond b (shutting place (drop 2 s)) (opened place (drop 1 s))) (Bad place)
      by true true e h = shutting_sound place (drop 2 s) h
      by true false e h = absurd (let z : ◌≡◌ {A = ℕ} 0 1 = cc in omega arith)
      by false b e h = absurd (let z : ◌≡◌ {A = ℕ} 0 1 = cc in omega arith)

  from_open : (get_or s 1 0 ≡ 47 → ⊥) → is_bad (tag_from place s) ≡ false → Open (element_of (word (drop 1 s))) ≡ tag_from place s
  from_open q = by (eqb (get_or s 0 0) 0x3c) (eqb (get_or s 1 0) 0x2f) (ne_eqb (get_or s 1 0) 47 q)
    where
      by : (a b : Bool) → b ≡ false → is_bad (cond a (cond b (shutting place (drop 2 s)) (opened place (drop 1 s))) (Bad place)) ≡ false
          → Open (element_of (word (drop 1 s))) ≡ cond a (cond b (shutting place (drop 2 s)) (opened place (drop 1 s))) (Bad place)
      by true false e h = opened_sound place (drop 1 s) h
      by true true e h = absurd (let z : ◌≡◌ {A = ℕ} 0 1 = cc in omega arith)
      by false b e h = absurd (let z : ◌≡◌ {A = ℕ} 0 1 = cc in omega arith)

module _ (c : List ℕ) (l : ℕ) (at-l : l ≡ lead c) where
  behind : take (length c - l) (drop l c) ≡ skip c
  behind = rw (tail, at-l)

  tag_is : tag_from l (skip c) ≡ tag_of c
  tag_is = rw at-l

  pub glance_short : length (take (length c - l) (drop l c)) < 2 → Glimpsed c (Bad l)
  glance_short h g = tag_short c l at-l h

  -- the name behind `</`, or behind `<`
  module _ (j w k : ℕ) (at-w : w ≡ word_len (take (length (take (length c - l) (drop l c)) - j) (drop j (take (length c - l) (drop l c)))))
      (is-k : k ≡ element_of (take w (take (length (take (length c - l) (drop l c)) - j) (drop j (take (length c - l) (drop l c)))))) where
    name_is : take (length (take (length c - l) (drop l c)) - j) (drop j (take (length c - l) (drop l c))) ≡ drop j (skip c)
    name_is = tail (take (length c - l) (drop l c)) j ∙ ap (drop j) behind

    k_is : k ≡ element_of (word (drop j (skip c)))
    k_is = rw (rw name_is at at-w) at (rw name_is at is-k)

    pub glance_shut : j ≡ 2 → get_or (take (length c - l) (drop l c)) 1 0 ≡ 47 → Glimpsed c (Shut k)
    glance_shut two q g =
        let q' : get_or (skip c) 1 0 ≡ 47 = rw behind at q in
        let g' : is_bad (tag_from l (skip c)) ≡ false = ap is_bad tag_is ∙ g in
        ap Shut (rw two at k_is) ∙ from-shut l (skip c) q' g' ∙ tag_is

    pub glance_open : j ≡ 1 → (get_or (take (length c - l) (drop l c)) 1 0 ≡ 47 → ⊥) → Glimpsed c (Open k)
    glance_open one q g =
        let q' : get_or (skip c) 1 0 ≡ 47 → ⊥ = rw behind at q in
        let g' : is_bad (tag_from l (skip c)) ≡ false = ap is_bad tag_is ∙ g in
        ap Open (rw one at k_is) ∙ from_open l (skip c) q' g' ∙ tag_is

pub goes : (d : ℕ) (c : List ℕ) (t : Tag) → Glimpsed c t → (r : ℕ) → r ≡ moved d c t → Goes d c r
goes d c t is r e g = e ∙ ap (moved d c) (is g)

pub ruleset glance_laws = (glance_short, glance_shut, glance_open, front_count, goes)

pub ruleset laws = (deeper_laws, moved_laws, place_laws, start_laws, check_laws, glance_laws)
