-- Laws on a document that is written: from place to place it has no fault, and says the lines that it was written for. Assumes nothing.
use mathlib.Core.Path.{◌≡◌, refl, sym, ap, ◌∙◌}
use mathlib.Core.Bool.{Bool, true, false, cond}
use mathlib.Core.List.{List, [], ◌∷◌, ◌++◌, append_assoc}
use Prim.Native.Nat.{ℕ, zero, suc, ◌+◌, ◌-◌, ◌%◌, ◌≤◌}
use native.Mathlib.Omega.{arith}
use lib.ListN.{length}
use borrow.Author.Tests.{le-leb, lt-leb, ne_eqb}
use Rattle.xml_schema.specs.Schema.{has_line, letter_of, entries_of}
use Rattle.xml_tags.specs.Tags.{chunks, tag_of, pieces_of, closed, fields_of}
use Rattle.xml_tags.specs.declared.Tag.TheVariants.{Shut, Open}
use Rattle.xml_tags.proofs.Chunks.{chunks_some}
use Rattle.xml_document.specs.Document.{shallower, enter, leave, moved, judge, level, with_line, items}
use Rattle.xml_attributes.specs.Attributes.{attributes}
use Rattle.xml_elements.specs.Elements.{name_for, blanks, head, depth, innermost, up, shut, closings, is_alone, ending, first_field, rest_for}
use Rattle.xml_elements.specs.Elements.{leads_to, element}
use Rattle.xml_laws.proofs.Attributes.{fitting, line_from}
use Rattle.xml_laws.proofs.Tags.{Element, element_is, shut_tag, shut_quiet, quiet, chunk_of, open_tag, open_fields, open_quiet, open_closed, open_left}
use Rattle.std.specs.Prelude.{None}

-- from d on, x has no fault and says these lines
pub record Says (d : ℕ) (x : List ℕ) (ls : List (List ℕ)) : Type 0 where
  pub lines : items d (chunks false x) ≡ ls
  pub fine : (place : ℕ) → judge d place (chunks false x) ≡ None

items_step : (d : ℕ) (c : List ℕ) (cs : List (List ℕ)) → 1 ≤ length cs
    → items d (c ∷ cs) ≡ with_line d c (tag_of c) (items (moved d c (tag_of c)) cs)
items_step d c [] h = absurd (omega arith)
items_step d c (b ∷ cs) h = refl

judge_step : (d e place : ℕ) (c : List ℕ) (cs : List (List ℕ)) → 1 ≤ length cs → moved d c (tag_of c) ≡ e → (e ≡ 15 → ⊥)
    → judge d place (c ∷ cs) ≡ judge e (place + length c + 1) cs
judge_step d e place c [] h m n = absurd (omega arith)
judge_step d e place c (b ∷ cs) h m n = rw (m, ne_eqb e 15 n)

-- one tag more: e is where it leads, js what it adds
pub one_more : (d e : ℕ) (c rest : List ℕ) (ls js : List (List ℕ)) → quiet false c ≡ true → moved d c (tag_of c) ≡ e → (e ≡ 15 → ⊥)
    → with_line d c (tag_of c) ls ≡ js → Says e rest ls → Says d (c ++ 0x3e ∷ rest) js
one_more d e c rest ls js q m n w s = record {
  lines = ap (items d) (chunk_of false c rest q) ∙ items_step d c (chunks false rest) (chunks_some false rest) ∙ rw (m, s.lines) w;
  fine = λ place.
      rw (chunk_of false c rest q) (judge_step d e place c (chunks false rest) (chunks_some false rest) m n ∙ s.fine (place + length c + 1));
}

-- ---- ends
pub record Inside (d : ℕ) : Type 0 where
  pub element : Element (innermost d)
  pub leads : leave d (innermost d) ≡ up d
  pub somewhere : up d ≡ 15 → ⊥

shut-shape : (d : ℕ) (rest : List ℕ)
    → 0x0a ∷ (shut d ++ rest) ≡ (0x0a ∷ head (depth d) (0x3c ∷ 0x2f ∷ []) (innermost d)) ++ 0x3e ∷ (0x0a ∷ rest)
shut-shape d rest = ap (λ (l : List ℕ). 0x0a ∷ l) (append_assoc (head (depth d) (0x3c ∷ 0x2f ∷ []) (innermost d)) (0x3e ∷ 0x0a ∷ []) rest)

pub says-shut : (d e : ℕ) (rest : List ℕ) (ls : List (List ℕ)) → Element (innermost d) → leave d (innermost d) ≡ e → (e ≡ 15 → ⊥)
    → Says e (0x0a ∷ rest) ls
    → Says d (0x0a ∷ (shut d ++ rest)) ls
says-shut d e rest ls el m n s =
    let tag : tag_of (0x0a ∷ head (depth d) (0x3c ∷ 0x2f ∷ []) (innermost d)) ≡ Shut (innermost d) = shut_tag (depth d) (innermost d) el in
    rw (shut-shape d rest)
    (one_more d e (0x0a ∷ head (depth d) (0x3c ∷ 0x2f ∷ []) (innermost d)) (0x0a ∷ rest) ls ls (shut_quiet (depth d) (innermost d) el)
    (rw tag m) n (rw tag) s)

abbrev pub climb : ℕ → ℕ → ℕ
climb zero d = d
climb (suc n) d = climb n (up d)

abbrev pub Climbs : ℕ → ℕ → Type 0
Climbs zero d = Unit {0}
Climbs (suc n) d = Inside d × Climbs n (up d)

pub says-closings : (n d : ℕ) (rest : List ℕ) (ls : List (List ℕ)) → Climbs n d → Says (climb n d) (0x0a ∷ rest) ls
    → Says d (0x0a ∷ (closings n d ++ rest)) ls
unfolding closings
says-closings zero d rest ls c s = s
says-closings (suc n) d rest ls c s =
    rw (append_assoc (shut d) (closings n (up d)) rest)
    (says-shut d (up d) (closings n (up d) ++ rest) ls c.0.element c.0.leads c.0.somewhere (says-closings n (up d) rest ls c.1 s))

-- ---- places: in a BaseHeader or a Header, and in a Param of a level there
abbrev pub owner : Bool → ℕ
owner false = 2
owner true = 3

abbrev pub deep : Bool → ℕ → ℕ
deep false m = 16 + m
deep true m = 24 + m

inside_base : Inside 2
inside_base = record { element = element_is 2 (omega arith); leads = refl; somewhere = λ e. omega arith }

inside-header : Inside 3
inside-header = record { element = element_is 3 (omega arith); leads = refl; somewhere = λ e. omega arith }

pub inside-set : Inside 6
inside-set = record { element = element_is 6 (omega arith); leads = refl; somewhere = λ e. omega arith }

pub inside-owner : (h : Bool) → Inside (owner h)
inside-owner false = inside_base
inside-owner true = inside-header

innermost-deep : (h : Bool) (m : ℕ) → innermost (deep h m) ≡ 4
innermost-deep false m = rw (le-leb 16 (16 + m) (omega arith))
innermost-deep true m = rw (le-leb 16 (24 + m) (omega arith))

pub up_first : (h : Bool) → up (deep h 0) ≡ owner h
up_first false = refl
up_first true = refl

pub up_next : (h : Bool) (m : ℕ) → suc m ≤ 7 → up (deep h (suc m)) ≡ deep h m
up_next false m l =
    rw (ne_eqb (16 + suc m) 16 (λ e. omega arith), ne_eqb (16 + suc m) 24 (λ e. omega arith), le-leb 16 (16 + suc m) (omega arith)) (omega arith)
up_next true m l =
    rw (ne_eqb (24 + suc m) 16 (λ e. omega arith), ne_eqb (24 + suc m) 24 (λ e. omega arith), le-leb 16 (24 + suc m) (omega arith)) (omega arith)

leave_next : (h : Bool) (m : ℕ) → suc m ≤ 7 → shallower (deep h (suc m)) ≡ deep h m
leave_next false m l =
    rw (
      ne_eqb (16 + suc m) 16 (λ e. omega arith),
      ne_eqb (16 + suc m) 24 (λ e. omega arith),
      le-leb 17 (16 + suc m) (omega arith),
      le-leb (16 + suc m) 31 (omega arith),
    )
    (omega arith)
leave_next true m l =
    rw (
      ne_eqb (24 + suc m) 16 (λ e. omega arith),
      ne_eqb (24 + suc m) 24 (λ e. omega arith),
      le-leb 17 (24 + suc m) (omega arith),
      le-leb (24 + suc m) 31 (omega arith),
    )
    (omega arith)

deep-low : (h : Bool) (m : ℕ) → 16 ≤ deep h m
deep-low false m = omega arith
deep-low true m = omega arith

pub inside-deep : (h : Bool) (m : ℕ) → m ≤ 7 → Inside (deep h m)
inside-deep h zero l = by h
  where
    by : (h : Bool) → Inside (deep h 0)
    by false = record { element = element_is 4 (omega arith); leads = refl; somewhere = λ e. omega arith }
    by true = record { element = element_is 4 (omega arith); leads = refl; somewhere = λ e. omega arith }
inside-deep h (suc m) l = record {
  element = rw (innermost-deep h (suc m)) (element_is 4 (omega arith));
  leads = rw (innermost-deep h (suc m)) (leave_next h m l ∙ sym (up_next h m l));
  somewhere = λ e. let z : 16 ≤ 15 = rw (sym (up_next h m l) ∙ e) at (deep-low h m) in omega arith;
}

-- so many ends from a Param lead further out
pub climbs_to : (h : Bool) (n m : ℕ) → n ≤ m → m ≤ 7 → Climbs n (deep h m) × (climb n (deep h m) ≡ deep h (m - n))
climbs_to h zero m a b = let z : m - 0 ≡ m = omega arith in (tt, rw z)
climbs_to h (suc n) zero a b = absurd (omega arith)
climbs_to h (suc n) (suc m) a b =
    let on : Climbs n (deep h m) × (climb n (deep h m) ≡ deep h (m - n)) = climbs_to h n m (omega arith) (omega arith) in
    let z : suc m - suc n ≡ m - n = omega arith in
    ((inside-deep h (suc m) b, rw (up_next h m b) on.0), rw (up_next h m b, z) on.1)

pub climbs_out : (h : Bool) (m : ℕ) → m ≤ 7 → Climbs (suc m) (deep h m) × (climb (suc m) (deep h m) ≡ owner h)
climbs_out h zero b = ((inside-deep h 0 b, tt), up_first h)
climbs_out h (suc m) b =
    let on : Climbs (suc m) (deep h m) × (climb (suc m) (deep h m) ≡ owner h) = climbs_out h m (omega arith) in
    ((inside-deep h (suc m) b, rw (up_next h m b) on.0), rw (up_next h m b) on.1)

pub climbs_root : (h : Bool) (m : ℕ) → m ≤ 7 → Climbs (suc (suc m)) (deep h m) × (climb (suc (suc m)) (deep h m) ≡ 0)
climbs_root h zero b = by h
  where
    by : (h : Bool) → Climbs 2 (deep h 0) × (climb 2 (deep h 0) ≡ 0)
    by false = ((inside-deep false 0 (omega arith), (inside_base, tt)), refl)
    by true = ((inside-deep true 0 (omega arith), (inside-header, tt)), refl)
climbs_root h (suc m) b =
    let on : Climbs (suc (suc m)) (deep h m) × (climb (suc (suc m)) (deep h m) ≡ 0) = climbs_root h m (omega arith) in
    ((inside-deep h (suc m) b, rw (up_next h m b) on.0), rw (up_next h m b) on.1)

pub depth-deep : (h : Bool) (m : ℕ) → m ≤ 7 → depth (deep h m) ≡ 2 + m
depth-deep false m l = rw (le-leb 16 (16 + m) (omega arith)) (omega arith)
depth-deep true m l = rw (le-leb 16 (24 + m) (omega arith)) (omega arith)

pub enter-first : (h : Bool) → enter (owner h) 4 ≡ deep h 0
enter-first false = refl
enter-first true = refl

pub enter_next : (h : Bool) (m : ℕ) → suc m ≤ 7 → enter (deep h m) 4 ≡ deep h (suc m)
enter_next false m l =
    rw (
      ne_eqb (16 + m) 2 (λ e. omega arith),
      ne_eqb (16 + m) 3 (λ e. omega arith),
      le-leb 16 (16 + m) (omega arith),
      le-leb (16 + m) 30 (omega arith),
      ne_eqb (16 + m) 23 (λ e. omega arith),
    )
    (omega arith)
enter_next true m l =
    rw (
      ne_eqb (24 + m) 2 (λ e. omega arith),
      ne_eqb (24 + m) 3 (λ e. omega arith),
      le-leb 16 (24 + m) (omega arith),
      le-leb (24 + m) 30 (omega arith),
      ne_eqb (24 + m) 23 (λ e. omega arith),
    )
    (omega arith)

pub leads_next : (h : Bool) (m l : ℕ) → m ≤ 7 → leads_to (deep h m) 4 l ≡ deep h l
leads_next false m l b = rw (ne_eqb (16 + m) 3 (λ e. omega arith), lt-leb 24 (16 + m) (omega arith))
leads_next true m l b = rw (ne_eqb (24 + m) 3 (λ e. omega arith), le-leb 24 (24 + m) (omega arith))

pub level-deep : (h : Bool) (l : ℕ) → l ≤ 7 → deep h l % 8 ≡ l
level-deep false l b = omega arith
level-deep true l b = omega arith

-- ---- the start of an element
abbrev end_of : ℕ → List ℕ
end_of k = cond (is_alone k) (0x2f ∷ []) []

ending_is : (k : ℕ) → ending k ≡ end_of k ++ (0x3e ∷ 0x0a ∷ [])
ending_is k = go (is_alone k)
  where
    go : (t : Bool) → cond {A = List ℕ} t (0x2f ∷ 0x3e ∷ 0x0a ∷ []) (0x3e ∷ 0x0a ∷ []) ≡ cond t (0x2f ∷ []) [] ++ (0x3e ∷ 0x0a ∷ [])
    go true = refl
    go false = refl

module _ (k s : ℕ) (fs : List (List ℕ)) where
  abbrev start : List ℕ
  start = 0x0a ∷ (blanks (suc s) ++ (0x3c ∷ (name_for k ++ (attributes (entries_of k) fs (first_field k) 1 ++ end_of k))))

  tag_shape : (rest : List ℕ) → 0x0a ∷ ((head (suc s) (0x3c ∷ []) k ++ rest_for k fs) ++ rest) ≡ start ++ 0x3e ∷ (0x0a ∷ rest)
  tag_shape rest =
      let names : List ℕ = name_for k in
      let attrs : List ℕ = attributes (entries_of k) fs (first_field k) 1 in
      let ends : List ℕ = 0x3e ∷ 0x0a ∷ [] in
      ap (λ (l : List ℕ). 0x0a ∷ l)
      (append_assoc (head (suc s) (0x3c ∷ []) k) (rest_for k fs) rest
      ∙ append_assoc (blanks (suc s)) (0x3c ∷ names) (rest_for k fs ++ rest)
      ∙ ap (λ (l : List ℕ). blanks (suc s) ++ (0x3c ∷ (names ++ l)))
      (append_assoc attrs (ending k) rest ∙ ap (λ (l : List ℕ). attrs ++ (l ++ rest)) (ending_is k) ∙ ap (λ (l : List ℕ). attrs ++ l)
      (append_assoc (end_of k) ends rest)
      ∙ sym (append_assoc attrs (end_of k) (0x3e ∷ 0x0a ∷ rest)))
      ∙ ap (λ (l : List ℕ). blanks (suc s) ++ (0x3c ∷ l)) (sym (append_assoc names (attrs ++ end_of k) (0x3e ∷ 0x0a ∷ rest)))
      ∙ sym (append_assoc (blanks (suc s)) (0x3c ∷ (names ++ (attrs ++ end_of k))) (0x3e ∷ 0x0a ∷ rest)))

  module _ (el : Element k) (fits : fitting fs (entries_of k) (first_field k) 1 ≡ true) where
    start_tag : tag_of start ≡ Open k
    start_tag = go (is_alone k)
      where
        go : (t : Bool)
            → tag_of (0x0a ∷ (blanks (suc s) ++ (0x3c ∷ (name_for k ++
            (attributes (entries_of k) fs (first_field k) 1 ++ cond t (0x2f ∷ []) []))))) ≡ Open k
        go true = open_tag (suc s) k el fs (first_field k) (0x2f ∷ []) fits refl refl refl
        go false = open_tag (suc s) k el fs (first_field k) [] fits refl refl refl

    start-fields : fields_of (entries_of k) (pieces_of start) ≡ line_from fs (entries_of k) (first_field k) 1
    start-fields = go (is_alone k)
      where
        go : (t : Bool) → fields_of (entries_of k)
            (pieces_of (0x0a ∷ (blanks (suc s) ++ (0x3c ∷ (name_for k ++ (attributes (entries_of k) fs (first_field k) 1 ++ cond t (0x2f ∷ []) []))))))
            ≡ line_from fs (entries_of k) (first_field k) 1
        go true = open_fields (suc s) k el fs (first_field k) (0x2f ∷ []) fits refl refl refl
        go false = open_fields (suc s) k el fs (first_field k) [] fits refl refl refl

    start_quiet : quiet false start ≡ true
    start_quiet = go (is_alone k)
      where
        go : (t : Bool)
            → quiet false (0x0a ∷ (blanks (suc s) ++ (0x3c ∷
            (name_for k ++ (attributes (entries_of k) fs (first_field k) 1 ++ cond t (0x2f ∷ []) []))))) ≡ true
        go true = open_quiet (suc s) k el fs (first_field k) (0x2f ∷ []) fits refl
        go false = open_quiet (suc s) k el fs (first_field k) [] fits refl

    start-closed : closed start ≡ is_alone k
    start-closed = go (is_alone k)
      where
        shape : 0x0a ∷ (blanks (suc s) ++ (0x3c ∷ (name_for k ++ (attributes (entries_of k) fs (first_field k) 1 ++ (0x2f ∷ [])))))
            ≡ (0x0a ∷ (blanks (suc s) ++ (0x3c ∷ (name_for k ++ attributes (entries_of k) fs (first_field k) 1)))) ++ (0x2f ∷ [])
        shape =
            ap (λ (l : List ℕ). 0x0a ∷ l)
            (ap (λ (l : List ℕ). blanks (suc s) ++ (0x3c ∷ l))
            (sym (append_assoc (name_for k) (attributes (entries_of k) fs (first_field k) 1) (0x2f ∷ [])))
            ∙ sym (append_assoc (blanks (suc s)) (0x3c ∷ (name_for k ++ attributes (entries_of k) fs (first_field k) 1)) (0x2f ∷ [])))

        go : (t : Bool)
            → closed (0x0a ∷ (blanks (suc s) ++ (0x3c ∷ (name_for k ++ (attributes (entries_of k) fs (first_field k) 1 ++ cond t (0x2f ∷ []) []))))) ≡ t
        go true = ap closed shape ∙ open_closed (0x0a ∷ (blanks (suc s) ++ (0x3c ∷ (name_for k ++ attributes (entries_of k) fs (first_field k) 1))))
        go false = open_left (suc s) k el fs (first_field k)

    -- from the place d, where it stands, to e
    pub says-start : (d e : ℕ) (l rest : List ℕ) (ls : List (List ℕ)) → cond (is_alone k) (leave (enter d k) k) (enter d k) ≡ e → (e ≡ 15 → ⊥)
        → has_line k ≡ true → letter_of k ∷ (level k (enter d k) ++ line_from fs (entries_of k) (first_field k) 1) ≡ l → Says e (0x0a ∷ rest) ls
        → Says d (0x0a ∷ ((head (suc s) (0x3c ∷ []) k ++ rest_for k fs) ++ rest)) (l ∷ ls)
    says-start d e l rest ls m n has line after =
        rw (tag_shape rest)
        (one_more d e start (0x0a ∷ rest) ls (l ∷ ls) start_quiet (rw (start_tag, start-closed) m) n (rw (start_tag, has, start-fields, line)) after)
