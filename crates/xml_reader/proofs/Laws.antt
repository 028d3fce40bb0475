-- Laws of the passes over a document. Assumes nothing.
use mathlib.Core.Path.{◌≡◌, refl, sym, ap, ◌∙◌}
use mathlib.Core.Bool.{Bool, true, false, cond, not}
use mathlib.Core.List.{List, [], ◌∷◌, ◌++◌, append_assoc}
use Prim.Native.Nat.{ℕ, ◌+◌, ◌-◌, ◌%◌, ◌^◌, ◌≤◌, ◌<◌}
use native.Mathlib.Nat.{add_assoc}
use native.Mathlib.Omega.{arith}
use mir.Val.{Fits}
use mir.Syntax.{w8, w64}
use lib.Dec.{eqb}
use lib.ListN.{length, take, drop, length-drop}
use lib.Seq.{drop-drop, length-take-le}
use borrow.Author.Tests.{eqb-true, eq-eqb, ne_eqb}
use Rattle.laws.proofs.Lists.{tail, done}
use Rattle.text.specs.Text.{split, fields}
use Rattle.text.specs.declared.Part.{Part}
use Rattle.text.proofs.Laws.{front_count}
use Rattle.readers.specs.Fields.{IsField}
use Rattle.xml_schema.specs.Schema.{table, letter_of, entries_of}
use Rattle.xml_schema.proofs.Laws.{row_end, row_fits, row_is}
use Rattle.xml_values.specs.Scan.{lead, skip, word_len, after}
use Rattle.xml_tags.specs.Tags.{chunks, tag_end, tag_of, pieces_of, fields_of}
use Rattle.xml_tags.specs.declared.Tag.{Tag}
use Rattle.xml_tags.specs.declared.Tag.TheVariants.{Bad, Shut, Open}
use Rattle.xml_tags.proofs.Chunks.{chunks-last, chunks-more, chunks_some}
use Rattle.xml_document.specs.Document.{enter, moved, fault_at, judge, start, verdict, level, line_of, with_line, items, items_of, owns, picked}
use Rattle.xml_document.specs.Document.{owned, blocks, ended, text_of}
use Rattle.xml_document.specs.Steps.{is_bad, Glimpsed, Goes, Standing}
use Rattle.xml_document.proofs.Laws.{judge_next}
use Rattle.xml_draft.specs.Draft.{Laid, Going}
use Rattle.xml_draft.proofs.Laws.{laid_none, laid_then, going_start, going_on, going_done}
use Rattle.xml_reader.specs.Pass.{items_at, line_bytes, picked_at, halts, bytes_of, Tagged, owned_at, blocks_at, block_bytes}
use Rattle.std.specs.Prelude.{Option, Some, None}

-- ---- where the attributes stand
module _ (c : List ℕ) (l : ℕ) (at-l : l ≡ lead c) where
  pub body-none : l ≡ length c → drop l c ≡ after (drop 1 (skip c))
  body-none e =
      let d : drop l c ≡ [] = done c l (omega arith) in
      let s : skip c ≡ [] = rw (← at-l) d in
      rw (s, d)

  pub body_some : (w : ℕ) → w ≡ word_len (take (length c - (l + 1)) (drop (l + 1) c)) → drop (l + 1 + w) c ≡ after (drop 1 (skip c))
  body_some w e =
      let e' : w ≡ word_len (drop (l + 1) c) = rw tail at e in
      let q : drop 1 (skip c) ≡ drop (l + 1) c = rw (← at-l) (drop-drop 1 l c) in
      rw (q, ← e') (sym (drop-drop w (l + 1) c))

module _ (c : List ℕ) (l w : ℕ) (in-l : l ≤ length c) (some : l ≡ length c → ⊥)
    (in-w : w ≤ length (take (length c - (l + 1)) (drop (l + 1) c))) where
  pub body_in : l + 1 + w ≤ length c
  body_in = let v : w ≤ length c - (l + 1) = rw length-drop at (rw tail at in-w) in omega (arith, some)

  pub body-fits : length c < 2 ^ 64 → Fits w64 (l + 1 + w)
  body-fits s = omega (arith, body_in)

pub ruleset body_laws = (body-none, body_some, body_in, body-fits)

-- ---- a line
pub level-fits : (e : ℕ) → Fits w8 (e % 8)
level-fits e = omega arith

pub level-sum-fits : (e : ℕ) → Fits w8 (48 + e % 8)
level-sum-fits e = omega arith

module _ (t u v : List ℕ) (n m r k e : ℕ) where
  pub level-laid : k ≡ 4 → Laid t u n m (9 ∷ []) → Laid u v m r ((48 + e % 8) ∷ []) → Laid t v n r (level k e)
  level-laid q a b = rw (eq-eqb k 4 q) (laid_then t u v n m r (9 ∷ []) ((48 + e % 8) ∷ []) a b)

  pub level-none : (k ≡ 4 → ⊥) → Laid t t n n (level k e)
  level-none q = rw (ne_eqb k 4 q) (laid_none t n)

  pub start-laid : (x : ℕ) → x ≡ letter_of k → Laid t u n m (x ∷ []) → Laid u v m r (level k e) → Laid t v n r (letter_of k ∷ level k e)
  start-laid x is a b = laid_then t u v n m r (letter_of k ∷ []) (level k e) (rw is at a) b

  pub line_laid : (w : List ℕ) (q : ℕ) (ps : List (List ℕ)) → Laid t u n m (letter_of k ∷ level k e) → Laid u v m r (fields_of (entries_of k) ps)
      → Laid v w r q (10 ∷ []) → Laid t w n q (line_of k e ps ++ (10 ∷ []))
  line_laid w q ps a b c =
      laid_then t v w n r q (line_of k e ps) (10 ∷ []) (laid_then t u v n m r (letter_of k ∷ level k e) (fields_of (entries_of k) ps) a b) c

pub ruleset line_laws = (level-fits, level-sum-fits, level-laid, level-none, start-laid, line_laid)

pub values_laid : (k : ℕ) (p : Part) → IsField 10 k table p → (t u : List ℕ) (n r : ℕ) (ps : List (List ℕ))
    → Laid t u n r (fields_of (drop 1 (fields (take (p.start + p.len - p.start) (drop p.start table)))) ps) → Laid t u n r (fields_of (entries_of k) ps)
values_laid k p is t u n r ps l = rw (row_is k p is) at l

pub ruleset values_laws = (values_laid, row_end, row_fits)

pub tag_line_laid : (c : List ℕ) (b : ℕ) → drop b c ≡ after (drop 1 (skip c)) → (d k e : ℕ) → e ≡ enter d k → (t u : List ℕ) (n r : ℕ)
    → Laid t u n r (line_of k e (split 34 (take (length c - b) (drop b c))) ++ (10 ∷ [])) → Laid t u n r (line_bytes d k c)
tag_line_laid c b is d k e to t u n r l =
    let q : take (length c - b) (drop b c) ≡ after (drop 1 (skip c)) = rw tail is in
    rw to at (rw q at l)

pub ruleset tag_line_laws = (tag_line_laid, front_count)

-- ---- one tag of a pass
module _ (w : ℕ) where
  pub owner_f : w ≡ 70 → true ≡ owns w
  owner_f q = rw q

  pub owner-b : w ≡ 66 → true ≡ owns w
  owner-b q = rw q

  pub owner_h : w ≡ 72 → true ≡ owns w
  owner_h q = rw q

  pub owner_d : w ≡ 68 → true ≡ owns w
  owner_d q = rw q

  pub owner-not : (w ≡ 70 → ⊥) → (w ≡ 66 → ⊥) → (w ≡ 72 → ⊥) → (w ≡ 68 → ⊥) → false ≡ owns w
  owner-not a b c d = rw (ne_eqb w 70 a, ne_eqb w 66 b, ne_eqb w 72 c, ne_eqb w 68 d)

module _ (t : List ℕ) (n d : ℕ) (c : List ℕ) (w : ℕ) (good : is_bad (tag_of c) ≡ false) (g : Tag) (is : Glimpsed c g) where
  the_tag : g ≡ tag_of c
  the_tag = is good

  pub tagged_bad : (p : ℕ) → g ≡ Bad p → Tagged t t n d c w (tag_of c) (Some n)
  tagged_bad p q = rw (← the_tag, q) (refl, laid_none t n)

  pub tagged-shut : (k : ℕ) → g ≡ Shut k → Tagged t t n d c w (tag_of c) (Some n)
  tagged-shut k q = rw (← the_tag, q) (refl, laid_none t n)

  module _ (k : ℕ) (q : g ≡ Open k) (l : ℕ) (is-l : l ≡ letter_of k) (x : Bool) (stop : x ≡ owns l) where
    stop_now : owns (letter_of k) ≡ x
    stop_now = sym (rw is-l at stop)

    pub tagged_stop : x ≡ true → Tagged t t n d c w (tag_of c) None
    tagged_stop e = rw (← the_tag, q) (stop_now ∙ e, refl)

    module _ (e : x ≡ false) where
      pub tagged_line : (u : List ℕ) (m : ℕ) → l ≡ w → Laid t u n m (line_bytes d k c) → Tagged t u n d c w (tag_of c) (Some m)
      tagged_line u m f laid =
          let z : bytes_of w d c (tag_of c) ≡ line_bytes d k c = ap (bytes_of w d c) (sym the_tag ∙ q) ∙ rw (← is-l, eq-eqb l w f) in
          (ap halts (sym the_tag ∙ q) ∙ stop_now ∙ e, rw z laid)

      pub tagged-other : (l ≡ w → ⊥) → Tagged t t n d c w (tag_of c) (Some n)
      tagged-other f = rw (← the_tag, q) (stop_now ∙ e, rw (← is-l, ne_eqb l w f) (laid_none t n))

pub ruleset tag_laws = (owner_f, owner-b, owner_h, owner_d, owner-not, tagged_bad, tagged-shut, tagged_stop, tagged_line, tagged-other)

-- ---- the lines of a tag and of what follows
ended-append : (a b : List (List ℕ)) → ended (a ++ b) ≡ ended a ++ ended b
ended-append [] b = refl
ended-append (l ∷ ls) b = rw (ended-append ls b) (sym (append_assoc l (10 ∷ ended ls) (ended b)))

unlike : (a b : ℕ) → eqb a b ≡ false → eqb b a ≡ false
unlike a b h = ne_eqb b a (λ e. absurd (let z : ◌≡◌ {A = Bool} false true = sym h ∙ eq-eqb a b (sym e) in let y : ◌≡◌ {A = ℕ} 0 1 = cc in omega arith))

-- an element without a line is none of a letter's, and owns nothing
no_line : (k w : ℕ) → eqb w 45 ≡ false → eqb (letter_of k) 45 ≡ true → (eqb (letter_of k) w ≡ false) × (owns (letter_of k) ≡ false)
no_line k w h e = let q : letter_of k ≡ 45 = eqb-true (letter_of k) 45 e in (rw q (unlike w 45 h), rw q)

picked_tag : (w d : ℕ) (c : List ℕ) (t : Tag) (ls : List (List ℕ)) → eqb w 45 ≡ false → is_bad t ≡ false
    → ended (picked w (with_line d c t ls)) ≡ cond (halts t) [] (bytes_of w d c t ++ ended (picked w ls))
picked_tag w d c (Bad n) ls h g = absurd (let z : ◌≡◌ {A = ℕ} 0 1 = cc in omega arith)
picked_tag w d c (Shut k) ls h g = refl
picked_tag w d c (Open k) ls h g = by (eqb (letter_of k) 45) refl
  where
    go : (a b : Bool)
        → ended (cond a [] (cond b (line_of k (enter d k) (pieces_of c) ∷ picked w ls) (picked w ls)))
        ≡ cond a [] (cond b (line_bytes d k c) [] ++ ended (picked w ls))
    go true b = refl
    go false true = sym (append_assoc (line_of k (enter d k) (pieces_of c)) (10 ∷ []) (ended (picked w ls)))
    go false false = refl

    by : (b : Bool) → eqb (letter_of k) 45 ≡ b
        → ended (picked w (cond (not b) (line_of k (enter d k) (pieces_of c) ∷ ls) ls))
        ≡ cond (owns (letter_of k)) [] (cond (eqb (letter_of k) w) (line_bytes d k c) [] ++ ended (picked w ls))
    by true e = rw ((no_line k w h e).0, (no_line k w h e).1)
    by false e = go (owns (letter_of k)) (eqb (letter_of k) w)

-- what is written of a block, with what its line owns
abbrev block_part : ℕ → ℕ → List ℕ → Tag → List ℕ → List ℕ
block_part w d c (Bad n) inner = []
block_part w d c (Shut k) inner = []
block_part w d c (Open k) inner = cond (eqb (letter_of k) w) (line_bytes d k c ++ inner) []

blocks_tag : (w d : ℕ) (c : List ℕ) (t : Tag) (ls : List (List ℕ)) → eqb w 45 ≡ false → is_bad t ≡ false
    → ended (blocks w (with_line d c t ls)) ≡ block_part w d c t (ended (owned ls)) ++ ended (blocks w ls)
blocks_tag w d c (Bad n) ls h g = absurd (let z : ◌≡◌ {A = ℕ} 0 1 = cc in omega arith)
blocks_tag w d c (Shut k) ls h g = refl
blocks_tag w d c (Open k) ls h g = by (eqb (letter_of k) 45) refl
  where
    go : (b : Bool)
        → ended (cond b (line_of k (enter d k) (pieces_of c) ∷ (owned ls ++ blocks w ls)) (blocks w ls))
        ≡ cond b (line_bytes d k c ++ ended (owned ls)) [] ++ ended (blocks w ls)
    go true =
        rw (ended-append (owned ls) (blocks w ls))
        (sym (append_assoc (line_bytes d k c) (ended (owned ls)) (ended (blocks w ls))
        ∙ append_assoc (line_of k (enter d k) (pieces_of c)) (10 ∷ []) (ended (owned ls) ++ ended (blocks w ls))))
    go false = refl

    by : (b : Bool) → eqb (letter_of k) 45 ≡ b
        → ended (blocks w (cond (not b) (line_of k (enter d k) (pieces_of c) ∷ ls) ls))
        ≡ cond (eqb (letter_of k) w) (line_bytes d k c ++ ended (owned ls)) [] ++ ended (blocks w ls)
    by true e = rw (no_line k w h e).0
    by false e = go (eqb (letter_of k) w)

owned_is : (x : List ℕ) (d at : ℕ) → ended (owned (items_at x d at)) ≡ owned_at x d at
owned_is x d at =
    ended-append (picked 80 (items_at x d at)) (picked 86 (items_at x d at) ++ picked 69 (items_at x d at))
    ∙ ap (λ l. ended (picked 80 (items_at x d at)) ++ l) (ended-append (picked 86 (items_at x d at)) (picked 69 (items_at x d at)))

-- ---- a tag of a document with which nothing is wrong
items_next : (d : ℕ) (c : List ℕ) (cs : List (List ℕ)) → 1 ≤ length cs
    → items d (c ∷ cs) ≡ with_line d c (tag_of c) (items (moved d c (tag_of c)) cs)
items_next d c [] h = absurd (omega arith)
items_next d c (e ∷ cs) h = refl

module _ (x : List ℕ) (d at : ℕ) (st : Standing x d at) (e : ℕ) (at-e : e ≡ tag_end false (take (length x - at) (drop at x)))
    (in_e : e ≤ length (take (length x - at) (drop at x))) where
  e_is : e ≡ tag_end false (drop at x)
  e_is = rw tail at at-e

  items-last : e ≡ length (take (length x - at) (drop at x)) → items_at x d at ≡ []
  items-last l =
      let l' : e ≡ length (drop at x) = rw tail at l in
      ap (items d) (chunks-last false (drop at x) (sym e_is ∙ l'))

  module _ (more : e ≡ length (take (length x - at) (drop at x)) → ⊥) where
    room : e < length x - at
    room = let v : e < length (take (length x - at) (drop at x)) = omega (arith, more) in rw length-drop at (rw tail at v)

    abbrev chunk : List ℕ
    chunk = take e (take (length x - at) (drop at x))

    chunk_is : chunk ≡ take e (drop at x)
    chunk_is = rw tail

    parted : chunks false (drop at x) ≡ chunk ∷ chunks false (drop (at + e + 1) x)
    parted = rw chunk_is (rw (add_assoc, ← drop-drop, e_is) (chunks-more false (drop at x) (rw (← e_is, length-drop) room)))

    chunk_long : length chunk ≡ e
    chunk_long = length-take-le e (take (length x - at) (drop at x)) in_e

    judged-on : cond (eqb (moved d chunk (tag_of chunk)) 15) (Some (fault_at at chunk (tag_of chunk)))
        (judge (moved d chunk (tag_of chunk)) (at + length chunk + 1) (chunks false (drop (at + e + 1) x))) ≡ None
    judged-on =
        sym (ap (judge d at) parted ∙ judge_next d at chunk (chunks false (drop (at + e + 1) x)) (chunks_some false (drop (at + e + 1) x))) ∙ st.fine

    -- nothing is wrong with it, and it leads on
    pub chunk_good : is_bad (tag_of chunk) ≡ false
    chunk_good = by (tag_of chunk) judged-on
      where
        by : (t : Tag) → cond (eqb (moved d chunk t) 15) (Some (fault_at at chunk t))
            (judge (moved d chunk t) (at + length chunk + 1) (chunks false (drop (at + e + 1) x))) ≡ None
            → is_bad t ≡ false
        by (Bad n) h = absurd (let z : ◌≡◌ {A = ℕ} 0 1 = cc in omega arith)
        by (Shut k) h = refl
        by (Open k) h = refl

    fine-on : judge (moved d chunk (tag_of chunk)) (at + e + 1) (chunks false (drop (at + e + 1) x)) ≡ None
    fine-on = rw chunk_long at (by (eqb (moved d chunk (tag_of chunk)) 15) judged-on)
      where
        by : (b : Bool)
            → cond b (Some (fault_at at chunk (tag_of chunk)))
            (judge (moved d chunk (tag_of chunk)) (at + length chunk + 1) (chunks false (drop (at + e + 1) x))) ≡ None
            → judge (moved d chunk (tag_of chunk)) (at + length chunk + 1) (chunks false (drop (at + e + 1) x)) ≡ None
        by true h = absurd (let z : ◌≡◌ {A = ℕ} 0 1 = cc in omega arith)
        by false h = h

    pub chunk_on : (n : ℕ) → Goes d chunk n → Standing x n (at + e + 1)
    chunk_on n g = record { inside = omega (arith, room, st.inside); fine = rw (g chunk_good) fine-on }

    pub chunk_to : (n : ℕ) → Goes d chunk n → n ≡ moved d chunk (tag_of chunk)
    chunk_to n g = g chunk_good

    pub chunk_less : length x - (at + e + 1) < length x - at
    chunk_less = omega (arith, room)

    pub chunk_fits : length x < 2 ^ 64 → Fits w64 (at + e + 1)
    chunk_fits h = omega (arith, room, st.inside)

    items-on : items_at x d at ≡ with_line d chunk (tag_of chunk) (items_at x (moved d chunk (tag_of chunk)) (at + e + 1))
    items-on = ap (items d) parted ∙ items_next d chunk (chunks false (drop (at + e + 1) x)) (chunks_some false (drop (at + e + 1) x))

pub standing_in : (x : List ℕ) (d at : ℕ) → Standing x d at → at ≤ length x
standing_in x d at st = st.inside

pub ruleset chunk_laws = (chunk_good, chunk_on, chunk_to, chunk_less, chunk_fits, standing_in, front_count)

-- ---- a pass for the lines of a letter
pub record Picking (t₀ t x : List ℕ) (w d₀ at₀ n₀ d at n : ℕ) : Type 0 where
  pub standing : Standing x d at
  pub going : Going t₀ n₀ (picked_at w x d₀ at₀) t n (picked_at w x d at)

pub picking_start : (t x : List ℕ) (w d at n : ℕ) → Standing x d at → Picking t t x w d at n d at n
picking_start t x w d at n st = record { standing = st; going = going_start t n (picked_at w x d at) }

pub picking_standing : (t₀ t x : List ℕ) (w d₀ at₀ n₀ d at n : ℕ) → Picking t₀ t x w d₀ at₀ n₀ d at n → Standing x d at
picking_standing t₀ t x w d₀ at₀ n₀ d at n p = p.standing

module _ (t₀ t x : List ℕ) (w d₀ at₀ n₀ d at n : ℕ) (p : Picking t₀ t x w d₀ at₀ n₀ d at n) (plain : eqb w 45 ≡ false) (e : ℕ)
    (at-e : e ≡ tag_end false (take (length x - at) (drop at x))) (in_e : e ≤ length (take (length x - at) (drop at x))) where
  pub picking_last : e ≡ length (take (length x - at) (drop at x)) → Laid t₀ t n₀ n (picked_at w x d₀ at₀)
  picking_last l =
      going_done t₀ n₀ (picked_at w x d₀ at₀) t n (picked_at w x d at) p.going
      (ap (λ ls. ended (picked w ls)) (items-last x d at p.standing e at-e in_e l))

  module _ (more : e ≡ length (take (length x - at) (drop at x)) → ⊥) where
    abbrev it : List ℕ
    it = take e (take (length x - at) (drop at x))

    picked-on : picked_at w x d at ≡ cond (halts (tag_of it)) [] (bytes_of w d it (tag_of it) ++ picked_at w x (moved d it (tag_of it)) (at + e + 1))
    picked-on =
        ap (λ ls. ended (picked w ls)) (items-on x d at p.standing e at-e in_e more)
        ∙ picked_tag w d it (tag_of it) (items_at x (moved d it (tag_of it)) (at + e + 1)) plain (chunk_good x d at p.standing e at-e in_e more)

    module _ (u : List ℕ) (g : Option ℕ) (said : Tagged t u n d it w (tag_of it) g) where
      pub picking_stop : g ≡ None → Laid t₀ u n₀ n (picked_at w x d₀ at₀)
      picking_stop q =
          let h : (halts (tag_of it) ≡ true) × (u ≡ t) = rw q at said in
          let z : picked_at w x d at ≡ [] = picked-on ∙ rw h.0 in
          rw h.1 (going_done t₀ n₀ (picked_at w x d₀ at₀) t n (picked_at w x d at) p.going z)

      pub picking_more : (m : ℕ) → g ≡ Some m → (d' : ℕ) → Goes d it d' → Picking t₀ u x w d₀ at₀ n₀ d' (at + e + 1) m
      picking_more m q d' to =
          let h : (halts (tag_of it) ≡ false) × Laid t u n m (bytes_of w d it (tag_of it)) = rw q at said in
          let k : d' ≡ moved d it (tag_of it) = chunk_to x d at p.standing e at-e in_e more d' to in
          let z : picked_at w x d at ≡ bytes_of w d it (tag_of it) ++ picked_at w x d' (at + e + 1) = rw k (picked-on ∙ rw h.0) in
          record {
            standing = chunk_on x d at p.standing e at-e in_e more d' to;
            going = going_on t₀ n₀ (picked_at w x d₀ at₀) t n (picked_at w x d at) (bytes_of w d it (tag_of it)) (picked_at w x d' (at + e + 1)) u m
                p.going z h.1;
          }

pub ruleset picking_laws = (picking_start, picking_standing, picking_last, picking_stop, picking_more, chunk_laws)

pub owned-laid : (t u v s x : List ℕ) (n m q r d at : ℕ) → Laid t u n m (picked_at 80 x d at) → Laid u v m q (picked_at 86 x d at)
    → Laid v s q r (picked_at 69 x d at)
    → Laid t s n r (owned_at x d at)
owned-laid t u v s x n m q r d at a b c =
    laid_then t u s n m r (picked_at 80 x d at) (picked_at 86 x d at ++ picked_at 69 x d at) a
    (laid_then u v s m q r (picked_at 86 x d at) (picked_at 69 x d at) b c)

pub ruleset owned_laws = (owned-laid)

-- ---- a block
module _ (t x : List ℕ) (n d inside to : ℕ) (c : List ℕ) (w : ℕ) (good : is_bad (tag_of c) ≡ false) (g : Tag) (is : Glimpsed c g) where
  pub block_bad : (p : ℕ) → g ≡ Bad p → Laid t t n n (block_bytes w x d to c (tag_of c))
  block_bad p q = let z : tag_of c ≡ Bad p = sym (is good) ∙ q in rw z (laid_none t n)

  pub block_shut : (k : ℕ) → g ≡ Shut k → Laid t t n n (block_bytes w x d to c (tag_of c))
  block_shut k q = let z : tag_of c ≡ Shut k = sym (is good) ∙ q in rw z (laid_none t n)

  module _ (k : ℕ) (q : g ≡ Open k) (l : ℕ) (is-l : l ≡ letter_of k) where
    tag_is : tag_of c ≡ Open k
    tag_is = sym (is good) ∙ q

    pub block_laid : l ≡ w → inside ≡ moved d c (tag_of c) → (u v : List ℕ) (m r : ℕ) → Laid t u n m (line_bytes d k c)
        → Laid u v m r (owned_at x inside to)
        → Laid t v n r (block_bytes w x d to c (tag_of c))
    block_laid f at u v m r a b =
        let z : block_bytes w x d to c (tag_of c) ≡ line_bytes d k c ++ owned_at x (moved d c (tag_of c)) to =
        ap (block_bytes w x d to c) tag_is ∙ rw (← is-l, eq-eqb l w f) in
        rw z (laid_then t u v n m r (line_bytes d k c) (owned_at x (moved d c (tag_of c)) to) a (rw at at b))

    pub block_other : (l ≡ w → ⊥) → Laid t t n n (block_bytes w x d to c (tag_of c))
    block_other f =
        let z : block_bytes w x d to c (tag_of c) ≡ [] = ap (block_bytes w x d to c) tag_is ∙ rw (← is-l, ne_eqb l w f) in
        rw z (laid_none t n)

pub ruleset block_laws = (block_bad, block_shut, block_laid, block_other)

-- ---- the blocks of a letter
pub record Blocking (t₀ t x : List ℕ) (w at₀ n₀ d at n : ℕ) : Type 0 where
  pub standing : Standing x d at
  pub going : Going t₀ n₀ (blocks_at w x 13 at₀) t n (blocks_at w x d at)

pub blocking_start : (t x : List ℕ) (w at n : ℕ) → Standing x 13 at → Blocking t t x w at n 13 at n
blocking_start t x w at n st = record { standing = st; going = going_start t n (blocks_at w x 13 at) }

pub blocking_standing : (t₀ t x : List ℕ) (w at₀ n₀ d at n : ℕ) → Blocking t₀ t x w at₀ n₀ d at n → Standing x d at
blocking_standing t₀ t x w at₀ n₀ d at n p = p.standing

module _ (t₀ t x : List ℕ) (w at₀ n₀ d at n : ℕ) (p : Blocking t₀ t x w at₀ n₀ d at n) (plain : eqb w 45 ≡ false) (e : ℕ)
    (at-e : e ≡ tag_end false (take (length x - at) (drop at x))) (in_e : e ≤ length (take (length x - at) (drop at x))) where
  pub blocking_last : e ≡ length (take (length x - at) (drop at x)) → Laid t₀ t n₀ n (blocks_at w x 13 at₀)
  blocking_last l =
      going_done t₀ n₀ (blocks_at w x 13 at₀) t n (blocks_at w x d at) p.going
      (ap (λ ls. ended (blocks w ls)) (items-last x d at p.standing e at-e in_e l))

  module _ (more : e ≡ length (take (length x - at) (drop at x)) → ⊥) where
    abbrev that : List ℕ
    that = take e (take (length x - at) (drop at x))

    block_part_lem : (g : Tag) → tag_of that ≡ g → block_part w d that g (owned_at x (moved d that g) (at + e + 1)) ≡ block_bytes w x d (at + e + 1) that g
    block_part_lem (Bad k) q = refl
    block_part_lem (Shut k) q = refl
    block_part_lem (Open k) q = rw q

    blocks-on : blocks_at w x d at ≡ block_bytes w x d (at + e + 1) that (tag_of that) ++ blocks_at w x (moved d that (tag_of that)) (at + e + 1)
    blocks-on =
        let rest = items_at x (moved d that (tag_of that)) (at + e + 1) in
        ap (λ ls. ended (blocks w ls)) (items-on x d at p.standing e at-e in_e more)
        ∙ blocks_tag w d that (tag_of that) rest plain (chunk_good x d at p.standing e at-e in_e more)
        ∙ ap (λ l. block_part w d that (tag_of that) l ++ ended (blocks w rest)) (owned_is x (moved d that (tag_of that)) (at + e + 1))
        ∙ ap (λ l. l ++ ended (blocks w rest)) (block_part_lem (tag_of that) refl)

    pub blocking_more : (d' : ℕ) → Goes d that d' → (u : List ℕ) (m : ℕ) → Laid t u n m (block_bytes w x d (at + e + 1) that (tag_of that))
        → Blocking t₀ u x w at₀ n₀ d' (at + e + 1) m
    blocking_more d' to u m l =
        let k : d' ≡ moved d that (tag_of that) = chunk_to x d at p.standing e at-e in_e more d' to in
        let z : blocks_at w x d at ≡ block_bytes w x d (at + e + 1) that (tag_of that) ++ blocks_at w x d' (at + e + 1) = rw k blocks-on in
        record {
          standing = chunk_on x d at p.standing e at-e in_e more d' to;
          going = going_on t₀ n₀ (blocks_at w x 13 at₀) t n (blocks_at w x d at) (block_bytes w x d (at + e + 1) that (tag_of that))
              (blocks_at w x d' (at + e + 1)) u m p.going z l;
        }

pub ruleset blocking_laws = (blocking_start, blocking_standing, blocking_last, blocking_more, chunk_laws)

-- ---- the text
pub text_standing : (x : List ℕ) (at : ℕ) → at ≡ start x → at ≤ length x → verdict x ≡ None → Standing x 13 at
text_standing x at e h v = record { inside = h; fine = rw e v }

pub text-laid : (x : List ℕ) (at : ℕ) → at ≡ start x → (t a b c u : List ℕ) (f g h r : ℕ) → Laid t a 0 f (blocks_at 70 x 13 at)
    → Laid a b f g (blocks_at 66 x 13 at)
    → Laid b c g h (blocks_at 72 x 13 at) → Laid c u h r (blocks_at 68 x 13 at) → Laid t u 0 r (text_of x)
text-laid x at e t a b c u f g h r p q s v =
    let is = items_of x in
    let z : text_of x ≡ ended (blocks 70 is) ++ (ended (blocks 66 is) ++ (ended (blocks 72 is) ++ ended (blocks 68 is))) =
    ended-append (blocks 70 is) (blocks 66 is ++ (blocks 72 is ++ blocks 68 is))
    ∙ ap (λ l. ended (blocks 70 is) ++ l)
    (ended-append (blocks 66 is) (blocks 72 is ++ blocks 68 is) ∙ ap (λ l. ended (blocks 66 is) ++ l) (ended-append (blocks 72 is) (blocks 68 is))) in
    let w : Laid t u 0 r (blocks_at 70 x 13 at ++ (blocks_at 66 x 13 at ++ (blocks_at 72 x 13 at ++ blocks_at 68 x 13 at))) =
    laid_then t a u 0 f r (blocks_at 70 x 13 at) (blocks_at 66 x 13 at ++ (blocks_at 72 x 13 at ++ blocks_at 68 x 13 at)) p
    (laid_then a b u f g r (blocks_at 66 x 13 at) (blocks_at 72 x 13 at ++ blocks_at 68 x 13 at) q
    (laid_then b c u g h r (blocks_at 72 x 13 at) (blocks_at 68 x 13 at) s v)) in
    rw z (rw e at w)

pub ruleset text_laws = (text_standing, text-laid)

pub ruleset laws = (body_laws, line_laws, values_laws, tag_line_laws, tag_laws, picking_laws, owned_laws, block_laws, blocking_laws, text_laws)
