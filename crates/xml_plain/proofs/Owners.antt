-- X7, X9 (docs/RULES.md): in a document with which nothing is wrong each P stands under a B or an H, each V under an H, and each E under a D. Assumes nothing.
use mathlib.Core.Path.{◌≡◌, refl, sym, ◌∙◌}
use mathlib.Core.Bool.{Bool, true, false, cond, not, ◌&&◌, ◌||◌}
use mathlib.Core.List.{List, [], ◌∷◌}
use Prim.Native.Nat.{ℕ, zero, suc, ◌+◌, ◌<◌}
use native.Mathlib.Omega.{arith}
use lib.Dec.{eqb, ltb}
use lib.ListN.{length, get_or, drop}
use borrow.Author.Tests.{eqb-true, eqb-false, ltb-true, eq-eqb}
use Rattle.laws.proofs.Bools.{and_left, and_right}
use Rattle.text.specs.Text.{split}
use Rattle.xml_schema.specs.Schema.{element_of, table, letter_of, entries_of, before}
use Rattle.xml_values.specs.Scan.{lead, skip, white, word_len, word, after}
use Rattle.xml_tags.specs.Tags.{chunks, closed, fault, whole, unless, judged, opened, shutting, tag_of, pieces_of}
use Rattle.xml_tags.specs.declared.Tag.{Tag}
use Rattle.xml_tags.specs.declared.Tag.TheVariants.{Bad, Shut, Open}
use Rattle.xml_document.specs.Document.{enter, leave, moved, fault_at, judge, start, verdict, line_of, with_line, items, items_of, letter, owns}
use Rattle.std.specs.Prelude.{Option, Some, None}

-- ---- lines under the line that owns them
-- may a line of the letter w stand where the last line that owns what follows has the letter o
abbrev pub allowed : ℕ → ℕ → Bool
allowed o w = cond (eqb w 0x50) (eqb o 0x42 || eqb o 0x48) (cond (eqb w 0x56) (eqb o 0x48) (cond (eqb w 0x45) (eqb o 0x44) true))

-- the letter of that line behind a line of the letter w
abbrev pub next : ℕ → ℕ → ℕ
next o w = cond (owns w) w o

abbrev pub Under : ℕ → List (List ℕ) → Type 0
Under o [] = Unit {0}
Under o (l ∷ ls) = (allowed o (letter l) ≡ true) × Under (next o (letter l)) ls

-- ---- the letter of the line that owns what stands in a place; 0 where there is none
abbrev owners : List ℕ
owners =
    0 ∷ 70 ∷ 66 ∷ 72 ∷ 0 ∷ 72 ∷ 68 ∷ 68 ∷ 66 ∷ 66 ∷ 66 ∷ 66 ∷ 66 ∷ 0 ∷ 0 ∷ 0
    ∷ 66 ∷ 66 ∷ 66 ∷ 66 ∷ 66 ∷ 66 ∷ 66 ∷ 66 ∷ 72 ∷ 72 ∷ 72 ∷ 72 ∷ 72 ∷ 72 ∷ 72 ∷ 72 ∷ []

abbrev owner_at : ℕ → ℕ
owner_at d = get_or owners d 0

-- the letter o fits the place d
abbrev fits : ℕ → ℕ → Bool
fits d o = ltb d 32 && (eqb (owner_at d) 0 || eqb (owner_at d) o)

-- the same where o is not known, 0
abbrev fits_now : ℕ → ℕ → Bool
fits_now d o = ltb d 32 && (eqb (owner_at d) 0 || (not (eqb o 0) && eqb (owner_at d) o))

-- ---- what is tried for each place and each element, w being the letter of its line
abbrev start_test : ℕ → ℕ → ℕ → ℕ → Bool
start_test d o k w =
    cond (eqb (enter d k) 15) (eqb (leave (enter d k) k) 15)
    (cond (eqb w 45) (fits_now (enter d k) o && fits_now (leave (enter d k) k) o)
    (cond (eqb o 0) (owns w) (allowed o w) && (fits_now (enter d k) (next o w) && fits_now (leave (enter d k) k) (next o w))))

abbrev end_test : ℕ → ℕ → ℕ → Bool
end_test d o k = cond (eqb (leave d k) 15) true (fits_now (leave d k) o)

abbrev both : ℕ → ℕ → ℕ → Bool
both k w d = start_test d (owner_at d) k w && end_test d (owner_at d) k

abbrev all : (ℕ → Bool) → ℕ → Bool
all f zero = true
all f (suc n) = f n && all f n

abbrev places : ℕ → ℕ → Bool
places k w = all (both k w) 32

tried : all (λ k. places k (letter_of k)) 13 ≡ true
unfolding table
tried = refl

below : (f : ℕ → Bool) (n d : ℕ) → all f n ≡ true → d < n → f d ≡ true
below f zero d p h = absurd (omega arith)
below f (suc n) d p h = by (eqb d n) refl (below f n d (and_right (f n) (all f n) p))
  where
    by : (b : Bool) → eqb d n ≡ b → (d < n → f d ≡ true) → f d ≡ true
    by true q ih = let e : d ≡ n = eqb-true d n q in rw e (and_left (f n) (all f n) p)
    by false q ih = ih (omega (arith, eqb-false d n q))

holds : (k d : ℕ) → k < 13 → d < 32 → both k (letter_of k) d ≡ true
holds k d h g = below (both k (letter_of k)) 32 d (below (λ k. places k (letter_of k)) 13 k tried h) g

-- ---- a tag
-- o fits d, and the tag leads on: o fits there too, or the letter of its line does
module _ (d o : ℕ) (f : fits d o ≡ true) where
  small : d < 32
  small = ltb-true d 32 (and_left (ltb d 32) (eqb (owner_at d) 0 || eqb (owner_at d) o) f)

  owner_is : (eqb (owner_at d) 0 || eqb (owner_at d) o) ≡ true
  owner_is = and_right (ltb d 32) (eqb (owner_at d) 0 || eqb (owner_at d) o) f

  -- a place that fits the owner of d fits o
  known : (e : ℕ) → fits_now e (owner_at d) ≡ true → fits e o ≡ true
  known e g = go (ltb e 32) (eqb (owner_at e) 0) (eqb (owner_at d) 0) refl (eqb (owner_at e) (owner_at d)) refl g owner_is
    where
      go : (a b c : Bool) → eqb (owner_at d) 0 ≡ c → (x : Bool) → eqb (owner_at e) (owner_at d) ≡ x → a && (b || (not c && x)) ≡ true
          → (c || eqb (owner_at d) o) ≡ true → a && (b || eqb (owner_at e) o) ≡ true
      go true true c q x y g h = refl
      go true false true q x y g h = absurd (let z : ◌≡◌ {A = ℕ} 0 1 = cc in omega arith)
      go true false false q true y g h = eq-eqb (owner_at e) o (eqb-true (owner_at e) (owner_at d) y ∙ eqb-true (owner_at d) o h)
      go true false false q false y g h = absurd (let z : ◌≡◌ {A = ℕ} 0 1 = cc in omega arith)
      go false b c q x y g h = absurd (let z : ◌≡◌ {A = ℕ} 0 1 = cc in omega arith)

  end_step : (k : ℕ) → k < 13 → eqb (leave d k) 15 ≡ false → fits (leave d k) o ≡ true
  end_step k h n =
      known (leave d k)
      (rw n at (and_right (start_test d (owner_at d) k (letter_of k)) (end_test d (owner_at d) k) (holds k d h small)))

  tried_start : (k : ℕ) → k < 13 → start_test d (owner_at d) k (letter_of k) ≡ true
  tried_start k h = and_left (start_test d (owner_at d) k (letter_of k)) (end_test d (owner_at d) k) (holds k d h small)

fits_now_lem : (e p : ℕ) → fits_now e p ≡ true → fits e p ≡ true
fits_now_lem e p = go (ltb e 32) (eqb (owner_at e) 0) (eqb p 0) (eqb (owner_at e) p)
  where
    go : (a b c x : Bool) → a && (b || (not c && x)) ≡ true → a && (b || x) ≡ true
    go true true c x g = refl
    go true false true x g = absurd (let z : ◌≡◌ {A = ℕ} 0 1 = cc in omega arith)
    go true false false x g = g
    go false b c x g = absurd (let z : ◌≡◌ {A = ℕ} 0 1 = cc in omega arith)

-- a line that owns what follows may stand anywhere
owns_allowed : (o w : ℕ) → owns w ≡ true → allowed o w ≡ true
owns_allowed o w p = by (eqb w 0x46) refl (eqb w 0x42) refl (eqb w 0x48) refl (eqb w 0x44) refl p
  where
    by : (a : Bool) → eqb w 0x46 ≡ a → (b : Bool) → eqb w 0x42 ≡ b → (c : Bool) → eqb w 0x48 ≡ c → (d : Bool) → eqb w 0x44 ≡ d
        → (a || (b || (c || d))) ≡ true → allowed o w ≡ true
    by true p b q c r d s h = rw (eqb-true w 0x46 p)
    by false p true q c r d s h = rw (eqb-true w 0x42 q)
    by false p false q true r d s h = rw (eqb-true w 0x48 r)
    by false p false q false r true s h = rw (eqb-true w 0x44 s)
    by false p false q false r false s h = absurd (let z : ◌≡◌ {A = ℕ} 0 1 = cc in omega arith)

-- what follows the start of an element
pub record Follows (o w e l : ℕ) : Type 0 where
  pub may : allowed o w ≡ true
  pub inside : fits e (next o w) ≡ true
  pub behind : fits l (next o w) ≡ true

module _ (d o : ℕ) (f : fits d o ≡ true) (k : ℕ) (few : k < 13) where
  -- it leads on inside, if it leads on at all
  start-on : (c : Bool) → eqb (cond c (leave (enter d k) k) (enter d k)) 15 ≡ false → eqb (enter d k) 15 ≡ false
  start-on c n = by (eqb (enter d k) 15) refl (tried_start d o f k few) c n
    where
      by : (b : Bool) → eqb (enter d k) 15 ≡ b
          → cond b (eqb (leave (enter d k) k) 15)
          (cond (eqb (letter_of k) 45) (fits_now (enter d k) (owner_at d) && fits_now (leave (enter d k) k) (owner_at d))
          (cond (eqb (owner_at d) 0) (owns (letter_of k)) (allowed (owner_at d) (letter_of k))
          && (fits_now (enter d k) (next (owner_at d) (letter_of k)) && fits_now (leave (enter d k) k) (next (owner_at d) (letter_of k))))) ≡ true
          → (c : Bool) → eqb (cond c (leave (enter d k) k) (enter d k)) 15 ≡ false → eqb (enter d k) 15 ≡ false
      by false q t c n = q
      by true q t true n = absurd (let z : ◌≡◌ {A = Bool} true false = sym t ∙ n in let y : ◌≡◌ {A = ℕ} 0 1 = cc in omega arith)
      by true q t false n = n

  module _ (n : eqb (enter d k) 15 ≡ false) where
    led : cond (eqb (letter_of k) 45) (fits_now (enter d k) (owner_at d) && fits_now (leave (enter d k) k) (owner_at d))
        (cond (eqb (owner_at d) 0) (owns (letter_of k)) (allowed (owner_at d) (letter_of k))
        && (fits_now (enter d k) (next (owner_at d) (letter_of k)) && fits_now (leave (enter d k) k) (next (owner_at d) (letter_of k)))) ≡ true
    led = rw n at (tried_start d o f k few)

    start_bare : eqb (letter_of k) 45 ≡ true → (fits (enter d k) o ≡ true) × (fits (leave (enter d k) k) o ≡ true)
    start_bare q =
        let t : fits_now (enter d k) (owner_at d) && fits_now (leave (enter d k) k) (owner_at d) ≡ true = rw q at led in (
          known d o f (enter d k) (and_left (fits_now (enter d k) (owner_at d)) (fits_now (leave (enter d k) k) (owner_at d)) t),
          known d o f (leave (enter d k) k) (and_right (fits_now (enter d k) (owner_at d)) (fits_now (leave (enter d k) k) (owner_at d)) t),
        )

    start_line : eqb (letter_of k) 45 ≡ false → Follows o (letter_of k) (enter d k) (leave (enter d k) k)
    start_line q = by (eqb (owner_at d) 0) refl (rw q at led) (owner_is d o f)
      where
        by : (z : Bool) → eqb (owner_at d) 0 ≡ z
            → cond z (owns (letter_of k)) (allowed (owner_at d) (letter_of k))
            && (fits_now (enter d k) (next (owner_at d) (letter_of k)) && fits_now (leave (enter d k) k) (next (owner_at d) (letter_of k))) ≡ true
            → (z || eqb (owner_at d) o) ≡ true → Follows o (letter_of k) (enter d k) (leave (enter d k) k)
        by true e t h =
            let w : owns (letter_of k) ≡ true = and_left (owns (letter_of k)) _ t in
            let a : next (owner_at d) (letter_of k) ≡ next o (letter_of k) = rw w in
            let r : fits_now (enter d k) (next o (letter_of k)) && fits_now (leave (enter d k) k) (next o (letter_of k))
            ≡ true = rw a at (and_right (owns (letter_of k)) _ t) in
            record {
              may = owns_allowed o (letter_of k) w;
              inside = fits_now_lem (enter d k) (next o (letter_of k)) (and_left (fits_now (enter d k) (next o (letter_of k))) _ r);
              behind = fits_now_lem (leave (enter d k) k) (next o (letter_of k)) (and_right (fits_now (enter d k) (next o (letter_of k))) _ r);
            }
        by false e t h =
            let w : owner_at d ≡ o = eqb-true (owner_at d) o h in
            let s : allowed o (letter_of k) && (fits_now (enter d k) (next o (letter_of k)) && fits_now (leave (enter d k) k) (next o (letter_of k)))
            ≡ true = rw w at t in
            let r : fits_now (enter d k) (next o (letter_of k)) && fits_now (leave (enter d k) k) (next o (letter_of k))
            ≡ true = and_right (allowed o (letter_of k)) _ s in
            record {
              may = and_left (allowed o (letter_of k)) _ s;
              inside = fits_now_lem (enter d k) (next o (letter_of k)) (and_left (fits_now (enter d k) (next o (letter_of k))) _ r);
              behind = fits_now_lem (leave (enter d k) k) (next o (letter_of k)) (and_right (fits_now (enter d k) (next o (letter_of k))) _ r);
            }

-- ---- a tag names one of the elements
abbrev Names : Tag → Type 0
Names (Bad n) = Unit {0}
Names (Shut k) = k < 13
Names (Open k) = k < 13

named : (c : List ℕ) → Names (tag_of c)
named c = by (eqb (get_or (skip c) 0 0) 0x3c) (eqb (get_or (skip c) 1 0) 0x2f)
  where
    shut : (l : List ℕ) (a b : Bool) → ltb (element_of (word l)) 13 ≡ a → Names (cond (a && b) (Shut (element_of (word l))) (Bad (lead c)))
    shut l true true q = ltb-true (element_of (word l)) 13 q
    shut l true false q = tt
    shut l false b q = tt

    start_is : (k : ℕ) → k < 13 → (g : Option ℕ) (w : Bool) → Names (unless g (cond w (Open k) (Bad (lead c))))
    start_is k h None true = h
    start_is k h None false = tt
    start_is k h (Some n) w = tt

    open_is : (l : List ℕ) (a : Bool) → ltb (element_of (word l)) 13 ≡ a
        → Names (cond a (judged (element_of (word l)) (entries_of (element_of (word l))) (lead c) (lead c + 1 + word_len l) (split 0x22 (after l)))
        (Bad (lead c)))
    open_is l true q =
        start_is (element_of (word l)) (ltb-true (element_of (word l)) 13 q)
        (fault (entries_of (element_of (word l))) (lead c + 1 + word_len l) (split 0x22 (after l))) (whole (entries_of (element_of (word l))) (split 0x22 (after l)))
    open_is l false q = tt

    by : (a b : Bool) → Names (cond a (cond b (shutting (lead c) (drop 2 (skip c))) (opened (lead c) (drop 1 (skip c)))) (Bad (lead c)))
    by true true = shut (drop 2 (skip c)) (ltb (element_of (word (drop 2 (skip c)))) 13) (white (after (drop 2 (skip c)))) refl
    by true false = open_is (drop 1 (skip c)) (ltb (element_of (word (drop 1 (skip c)))) 13) refl
    by false b = tt

-- ---- the lines of a document
judge-on : (d place : ℕ) (c e : List ℕ) (cs : List (List ℕ)) → judge d place (c ∷ e ∷ cs) ≡ None
    → (eqb (moved d c (tag_of c)) 15 ≡ false) × (judge (moved d c (tag_of c)) (place + length c + 1) (e ∷ cs) ≡ None)
judge-on d place c e cs h = by (eqb (moved d c (tag_of c)) 15) h
  where
    by : (b : Bool) → cond b (Some (fault_at place c (tag_of c))) (judge (moved d c (tag_of c)) (place + length c + 1) (e ∷ cs)) ≡ None
        → (b ≡ false) × (judge (moved d c (tag_of c)) (place + length c + 1) (e ∷ cs) ≡ None)
    by true h = absurd (let z : ◌≡◌ {A = ℕ} 0 1 = cc in omega arith)
    by false h = (refl, h)

one_tag : (d o : ℕ) → fits d o ≡ true → (c : List ℕ) (t : Tag) → Names t → eqb (moved d c t) 15 ≡ false → (ls : List (List ℕ))
    → ((p : ℕ) → fits (moved d c t) p ≡ true → Under p ls) → Under o (with_line d c t ls)
one_tag d o f c (Bad n) k m ls go = absurd (let z : ◌≡◌ {A = ℕ} 0 1 = cc in omega arith)
one_tag d o f c (Shut k) few m ls go = go o (end_step d o f k few m)
one_tag d o f c (Open k) few m ls go = by (eqb (letter_of k) 45) refl
  where
    n : eqb (enter d k) 15 ≡ false
    n = start-on d o f k few (closed c) m

    at_end_lem : (p : ℕ) (b : Bool) → fits (enter d k) p ≡ true → fits (leave (enter d k) k) p ≡ true
        → fits (cond b (leave (enter d k) k) (enter d k)) p ≡ true
    at_end_lem p true i b = b
    at_end_lem p false i b = i

    by : (b : Bool) → eqb (letter_of k) 45 ≡ b → Under o (cond (not b) (line_of k (enter d k) (pieces_of c) ∷ ls) ls)
    by true q = let s : (fits (enter d k) o ≡ true) × (fits (leave (enter d k) k) o ≡ true) = start_bare d o f k few n q in go o
        (at_end_lem o (closed c) s.0 s.1)
    by false q =
        let s : Follows o (letter_of k) (enter d k) (leave (enter d k) k) = start_line d o f k few n q in
        (s.may, go (next o (letter_of k)) (at_end_lem (next o (letter_of k)) (closed c) s.inside s.behind))

items-under : (d o place : ℕ) (cs : List (List ℕ)) → fits d o ≡ true → judge d place cs ≡ None → Under o (items d cs)
items-under d o place [] f h = tt
items-under d o place (c ∷ []) f h = tt
items-under d o place (c ∷ e ∷ cs) f h =
    let s : (eqb (moved d c (tag_of c)) 15 ≡ false) × (judge (moved d c (tag_of c)) (place + length c + 1) (e ∷ cs) ≡ None) = judge-on d place c e cs h in
    one_tag d o f c (tag_of c) (named c) s.0 (items (moved d c (tag_of c)) (e ∷ cs))
    (λ p g. items-under (moved d c (tag_of c)) p (place + length c + 1) (e ∷ cs) g s.1)

-- X7, X9: each line of the elements stands under the line that owns it
pub document-under : (x : List ℕ) → verdict x ≡ None → Under 0 (items_of x)
document-under x h = items-under before 0 (start x) (chunks false (drop (start x) x)) refl h
