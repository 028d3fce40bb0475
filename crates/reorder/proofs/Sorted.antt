-- The H blocks of an accepted text sorted by name: a rearrangement, so W-213 holds of it. Assumes nothing.
use mathlib.Core.Path.{◌≡◌, refl, sym, ap, ◌∙◌, subst}
use mathlib.Core.Bool.{Bool, true, false, cond, ◌&&◌, ◌||◌, true≢false}
use mathlib.Core.List.{List, [], ◌∷◌, ◌++◌, map}
use Prim.Native.Nat.{ℕ, suc, ◌<◌, ◌≤◌}
use native.Mathlib.Omega.{arith}
use lib.Dec.{eqb, ltb}
use lib.ListN.{length}
use borrow.Author.Tests.{ltb-false, eqb-true, lt-ltb, le-ltb, eq-eqb}
use Rattle.text.specs.Text.{same}
use Rattle.text.specs.Print.{Every}
use Rattle.frame_text.specs.Rules.{verdict}
use Rattle.header.specs.Decode.{Within, Decodes}
use Rattle.reorder.specs.Moved.{Moved}
use Rattle.reorder.specs.Blocks.{only, Section, is_block, blocks, Line, says_of, sections_of}
use Rattle.reorder.specs.Reorder.{new_header, new_param, Follows, Harmless}
use Rattle.reorder.specs.Sorted.{insert_by, sort_by, Sorted, placed, up_to, name_up_to, name_of, by_name, sorted_text}
use Rattle.reorder.proofs.Moved.{moved_every}
use Rattle.reorder.proofs.Written.{Text, any_order}
use Rattle.reorder.proofs.Reorder.{harmless}
use Rattle.std.specs.Prelude.{Option, Some, None, Result, Ok}
use Rattle.header.specs.declared.DecodedHeader.{DecodedHeader}
use Rattle.refusal.specs.declared.Refusal.{Refusal}

-- ---- sorting
module _ {X : Type 0} (before : X → X → Bool) where
  -- x stands somewhere among the others
  record Put (x : X) (ys zs : List X) : Type 0 where
    front : List X
    back : List X
    place : zs ≡ front ++ x ∷ back
    others : front ++ back ≡ ys

  put : (x : X) (ys : List X) → Put x ys (insert_by before x ys)
  put x [] = record { front = []; back = []; place = refl; others = refl }
  put x (y ∷ ys) = go (before x y) (put x ys)
    where
      go : (b : Bool) → Put x ys (insert_by before x ys) → Put x (y ∷ ys) (cond b (x ∷ y ∷ ys) (y ∷ insert_by before x ys))
      go true p = record { front = []; back = y ∷ ys; place = refl; others = refl }
      go false p =
          record {
            front = y ∷ p.front;
            back = p.back;
            place = ap (λ (z : List X). y ∷ z) p.place;
            others = ap (λ (z : List X). y ∷ z) p.others;
          }

  pub sort_moved : (xs : List X) → Moved xs (sort_by before xs)
  sort_moved [] = refl
  sort_moved (x ∷ xs) =
      let p = put x (sort_by before xs) in
      (p.front, p.back, p.place, subst (Moved xs) (sym p.others) (sort_moved xs))

  insert-length : (x : X) (ys : List X) → length (insert_by before x ys) ≡ suc (length ys)
  insert-length x [] = refl
  insert-length x (y ∷ ys) = go (before x y) (insert-length x ys)
    where
      go : (b : Bool) → length (insert_by before x ys) ≡ suc (length ys)
          → length (cond b (x ∷ y ∷ ys) (y ∷ insert_by before x ys)) ≡ suc (suc (length ys))
      go true e = refl
      go false e = ap suc e

  pub sort_length : (xs : List X) → length (sort_by before xs) ≡ length xs
  sort_length [] = refl
  sort_length (x ∷ xs) = insert-length x (sort_by before xs) ∙ ap suc (sort_length xs)

  -- of two, one may stand before the other: then the result is sorted
  module _ (total : (x y : X) → before x y ≡ false → before y x ≡ true) where
    insert-sorted : (x : X) (ys : List X) → Sorted before ys → Sorted before (insert_by before x ys)
    insert-sorted x [] s = tt
    insert-sorted x (y ∷ []) s = go (before x y) refl
      where
        go : (b : Bool) → before x y ≡ b → Sorted before (cond b (x ∷ y ∷ []) (y ∷ x ∷ []))
        go true e = (e, tt)
        go false e = (total x y e, tt)
    insert-sorted x (y ∷ z ∷ zs) s = go (before x y) refl (before x z) refl (insert-sorted x (z ∷ zs) s.1)
      where
        go : (b : Bool) → before x y ≡ b → (c : Bool) → before x z ≡ c → Sorted before (cond c (x ∷ z ∷ zs) (z ∷ insert_by before x zs))
            → Sorted before (cond b (x ∷ y ∷ z ∷ zs) (y ∷ cond c (x ∷ z ∷ zs) (z ∷ insert_by before x zs)))
        go true e c f ih = (e, s)
        go false e true f ih = (total x y e, ih)
        go false e false f ih = (s.0, ih)

    pub sort_sorted : (xs : List X) → Sorted before (sort_by before xs)
    sort_sorted [] = tt
    sort_sorted (x ∷ xs) = insert-sorted x (sort_by before xs) (sort_sorted xs)

  -- those that are alike stay as they stood
  module _ (test : X → Bool) (alike : (x y : X) → test x ≡ true → test y ≡ true → before x y ≡ true) where
    insert_stays : (x : X) (ys : List X) → only test (insert_by before x ys) ≡ only test (x ∷ ys)
    insert_stays x [] = refl
    insert_stays x (y ∷ ys) = go (before x y) refl (test x) refl (test y) refl (insert_stays x ys)
      where
        go : (b : Bool) → before x y ≡ b → (c : Bool) → test x ≡ c → (e : Bool) → test y ≡ e
            → only test (insert_by before x ys) ≡ cond c (x ∷ only test ys) (only test ys)
            → only test (cond b (x ∷ y ∷ ys) (y ∷ insert_by before x ys))
            ≡ cond c (x ∷ cond e (y ∷ only test ys) (only test ys)) (cond e (y ∷ only test ys) (only test ys))
        go true p c q e r ih = rw (q, r)
        go false p true q true r ih = absurd (true≢false (sym (alike x y q r) ∙ p))
        go false p true q false r ih = rw r ih
        go false p false q true r ih = rw r (ap (λ (z : List X). y ∷ z) ih)
        go false p false q false r ih = rw r ih

    pub sort_stays : (xs : List X) → only test (sort_by before xs) ≡ only test xs
    sort_stays [] = refl
    sort_stays (x ∷ xs) = insert_stays x (sort_by before xs) ∙ ap (λ (z : List X). cond (test x) (x ∷ z) z) (sort_stays xs)

-- ---- in the places of those that meet the test
module _ {X : Type 0} (test : X → Bool) where
  abbrev Meets : X → Type 0
  Meets x = test x ≡ true

  abbrev hole : X → Option X
  hole x = cond (test x) None (Some x)

  only-meets : (xs : List X) → Every Meets (only test xs)
  only-meets [] = tt
  only-meets (x ∷ xs) = go (test x) refl (only-meets xs)
    where
      go : (b : Bool) → test x ≡ b → Every Meets (only test xs) → Every Meets (cond b (x ∷ only test xs) (only test xs))
      go true e a = (e, a)
      go false e a = a

  placed-only : (xs ys : List X) → Every Meets ys → length ys ≡ length (only test xs) → only test (placed test ys xs) ≡ ys
  placed-only [] [] a e = refl
  placed-only [] (y ∷ ys) a e = absurd (let z : suc (length ys) ≡ 0 = e in omega arith)
  placed-only (x ∷ xs) [] a e = go (test x) refl e (placed-only xs [] tt)
    where
      go : (b : Bool) → test x ≡ b → 0 ≡ length (cond b (x ∷ only test xs) (only test xs))
          → (0 ≡ length (only test xs) → only test (placed test [] xs) ≡ [])
          → only test (x ∷ placed test [] xs) ≡ []
      go true q l ih = absurd (let z : 0 ≡ suc (length (only test xs)) = l in omega arith)
      go false q l ih = rw q (ih l)
  placed-only (x ∷ xs) (y ∷ ys) a e = go (test x) refl e (placed-only xs ys a.1) (placed-only xs (y ∷ ys) a)
    where
      go : (b : Bool) → test x ≡ b → suc (length ys) ≡ length (cond b (x ∷ only test xs) (only test xs))
          → (length ys ≡ length (only test xs) → only test (placed test ys xs) ≡ ys)
          → (suc (length ys) ≡ length (only test xs) → only test (placed test (y ∷ ys) xs) ≡ y ∷ ys)
          → only test (cond b (y ∷ placed test ys xs) (x ∷ placed test (y ∷ ys) xs)) ≡ y ∷ ys
      go true q l on past = rw a.0 (ap (λ (z : List X). y ∷ z) (on (let z : suc (length ys) ≡ suc (length (only test xs)) = l in omega arith)))
      go false q l on past = rw q (past l)

  placed_holes : (xs ys : List X) → Every Meets ys → map hole xs ≡ map hole (placed test ys xs)
  placed_holes [] ys a = refl
  placed_holes (x ∷ xs) [] a = ap (λ (z : List (Option X)). hole x ∷ z) (placed_holes xs [] tt)
  placed_holes (x ∷ xs) (y ∷ ys) a = go (test x) refl (placed_holes xs ys a.1) (placed_holes xs (y ∷ ys) a)
    where
      go : (b : Bool) → test x ≡ b → map hole xs ≡ map hole (placed test ys xs) → map hole xs ≡ map hole (placed test (y ∷ ys) xs)
          → hole x ∷ map hole xs ≡ map hole (cond b (y ∷ placed test ys xs) (x ∷ placed test (y ∷ ys) xs))
      go true q on past = rw (q, a.0) (ap (λ (z : List (Option X)). None ∷ z) on)
      go false q on past = ap (λ (z : List (Option X)). hole x ∷ z) past

-- ---- names
lt_of_ne : (y x : ℕ) → y ≤ x → (y ≡ x → ⊥) → y < x
lt_of_ne y x l n = omega arith

up_to_total : (x y : List ℕ) → up_to x y ≡ false → up_to y x ≡ true
up_to_total [] y e = absurd (true≢false e)
up_to_total (x ∷ xs) [] e = refl
up_to_total (x ∷ xs) (y ∷ ys) e = go (ltb x y) refl (eqb x y) refl e (up_to_total xs ys)
  where
    go : (a : Bool) → ltb x y ≡ a → (b : Bool) → eqb x y ≡ b → (a || (b && up_to xs ys)) ≡ false → (up_to xs ys ≡ false → up_to ys xs ≡ true)
        → (ltb y x || (eqb y x && up_to ys xs)) ≡ true
    go true p b q f ih = absurd (true≢false f)
    go false p true q f ih =
        let z : x ≡ y = eqb-true x y q in
        rw (le-ltb y x (omega (arith, z)), eq-eqb y x (sym z)) (ih f)
    go false p false q f ih =
        let l : y ≤ x = ltb-false x y p in
        rw (lt-ltb y x (lt_of_ne y x l (λ z. absurd (true≢false (sym (eq-eqb x y (sym z)) ∙ q))))) refl

up_to_same : (n x y : List ℕ) → same x n ≡ true → same y n ≡ true → up_to x y ≡ true
up_to_same n [] y p q = refl
up_to_same [] (x ∷ xs) y p q = absurd (true≢false (sym p))
up_to_same (n ∷ ns) (x ∷ xs) [] p q = absurd (true≢false (sym q))
up_to_same (n ∷ ns) (x ∷ xs) (y ∷ ys) p q = go (eqb x n) refl p (eqb y n) refl q (up_to_same ns xs ys)
  where
    go : (a : Bool) → eqb x n ≡ a → (a && same xs ns) ≡ true → (b : Bool) → eqb y n ≡ b → (b && same ys ns) ≡ true
        → (same xs ns ≡ true → same ys ns ≡ true → up_to xs ys ≡ true) → (ltb x y || (eqb x y && up_to xs ys)) ≡ true
    go true e f true g h ih =
        let z : x ≡ y = eqb-true x n e ∙ sym (eqb-true y n g) in
        rw (le-ltb x y (omega (arith, z)), eq-eqb x y z) (ih f h)
    go false e f b g h ih = absurd (true≢false (sym f))
    go true e f false g h ih = absurd (true≢false (sym h))

-- ---- the blocks of sections
module _ (ss : List (Section Line)) where
  abbrev names : List (Section Line)
  names = sort_by name_up_to (blocks says_of ss)

  names_meet : Every (Meets (is_block says_of)) names
  names_meet = moved_every (Meets (is_block says_of)) (blocks says_of ss) names (sort_moved name_up_to (blocks says_of ss)) (only-meets (is_block says_of) ss)

  blocks_are : blocks says_of (by_name ss) ≡ names
  blocks_are = placed-only (is_block says_of) ss names names_meet (sort_length name_up_to (blocks says_of ss))

  -- they are sorted by name
  pub blocks-sorted : Sorted name_up_to (blocks says_of (by_name ss))
  blocks-sorted =
      subst (Sorted name_up_to) (sym blocks_are) (sort_sorted name_up_to (λ r s. up_to_total (name_of r) (name_of s)) (blocks says_of ss))

  -- and those of one name stay as they stood
  pub namesakes_stay : (name : List ℕ) → only (λ s. same (name_of s) name) (blocks says_of (by_name ss))
      ≡ only (λ s. same (name_of s) name) (blocks says_of ss)
  namesakes_stay name =
      ap (only (λ s. same (name_of s) name)) blocks_are
      ∙ sort_stays name_up_to (λ s. same (name_of s) name) (λ r s. up_to_same name (name_of r) (name_of s)) (blocks says_of ss)

-- ---- the text
module _ (t : List ℕ) (v : verdict t ≡ Ok tt) where
  -- the sorted text is a rearrangement, accepted, and as long
  pub sorted-text : Text t (by_name (sections_of t)) (sorted_text t)
  sorted-text =
      any_order t v (by_name (sections_of t)) (placed_holes (is_block says_of) (sections_of t) (names (sections_of t)) (names_meet (sections_of t)))
      (subst (Moved (blocks says_of (sections_of t))) (sym (blocks_are (sections_of t))) (sort_moved name_up_to (blocks says_of (sections_of t))))

-- W-213 of the text sorted by name
pub sorting_harmless : (t : List ℕ) (region speed : ℕ) (d table : List ℕ) → Within t d → (r : Result DecodedHeader Refusal) (table₁ : List ℕ)
    → Decodes t d region speed table r table₁
    → (r' : Result DecodedHeader Refusal) (table₂ : List ℕ) → Decodes (sorted_text t) d region speed table r' table₂
    → Follows (new_header (by_name (sections_of t))) (new_param (by_name (sections_of t))) (by_name (sections_of t)) (sections_of (sorted_text t))
    × Harmless t (sorted_text t) d region speed table (new_header (by_name (sections_of t))) (new_param (by_name (sections_of t))) r table₁ r' table₂
sorting_harmless t region speed d table w r table₁ c₁ r' table₂ c₂ =
    subst
    (λ (o : List (Section Line)). Follows (new_header o) (new_param o) o (sections_of (sorted_text t))
    × Harmless t (sorted_text t) d region speed table (new_header o) (new_param o) r table₁ r' table₂)
    (sorted-text t w.accepted).by_order
    (harmless t (sorted_text t) (sorted-text t w.accepted).reordered region speed d table w r table₁ c₁ r' table₂ c₂)
