-- Two headers that are apart: no MPDU is held by both. Assumes nothing.
use mathlib.Core.Path.{◌≡◌, refl, sym, ap, ◌∙◌, subst}
use mathlib.Core.Bool.{Bool, true, false, cond, ◌&&◌, true≢false, false≢true}
use mathlib.Core.List.{List, [], ◌∷◌, ◌++◌, map, head-eq_of_cons-eq, tail-eq_of_cons-eq, append_assoc}
use Prim.Native.Nat.{ℕ, ◌≤◌}
use native.Mathlib.Omega.{arith}
use lib.Dec.{eqb, leb}
use borrow.Author.Tests.{leb-true, eqb-true, eq-eqb}
use Rattle.laws.proofs.Bools.{and_left, and_right}
use Rattle.text.specs.Print.{Every}
use Rattle.frame_text.specs.Form.{Path}
use Rattle.frame_definition.specs.Definition.{Numbered, Validation, Frame, is_key, some?, candidates}
use Rattle.header_rules.specs.Data.{P, Field, Candidate}
use Rattle.header_rules.specs.Find.{value_at}
use Rattle.header_rules.specs.Walk.{reading}
use Rattle.header_rules.specs.Demand.{Meets, Holds}
use Rattle.header_rules.specs.Trees.{trees, candidate_of}
use Rattle.header_rules.proofs.Lawful.{none-split}
use Rattle.header_rules.proofs.Reading.{reading-only}
use Rattle.header_rules.proofs.Run.{every_split}
use Rattle.reorder.specs.Reorder.{Only}
use Rattle.reorder.proofs.Answers.{every_none}
use Rattle.overlaps.specs.Overlaps.{same_path, greater, head_of, of_one_base, together, decides, tell_one, tell_each, tell_all, are_apart}
use Rattle.overlaps.specs.Overlaps.{said_by, apart_from_all, all_apart}
use Rattle.overlaps.proofs.Alike.{path_is}
use Rattle.overlaps.proofs.Values.{agree}
use Rattle.std.specs.Prelude.{Option, Some, None}

-- ---- two headers
-- each V finds its value
meets_every : (n : ℕ) (d : List ℕ) (fs : List (Field n)) (vs : List Validation) → Meets n d fs vs
    → Every (λ (v : Validation). value_at n d v.path fs ≡ Some v.value) vs
meets_every n d fs [] m = tt
meets_every n d fs (v ∷ vs) m =
    (m [] v vs refl, meets_every n d fs vs (λ xs w ys e. m (v ∷ xs) w ys (ap (λ (z : List Validation). v ∷ z) e)))

pick : (a b : ℕ) → 3 ≤ greater a b → (3 ≤ a → ⊥) → (3 ≤ b → ⊥) → ⊥
pick a b h na nb = go (leb a b) h
  where
    go : (t : Bool) → 3 ≤ cond t b a → ⊥
    go true l = nb l
    go false l = na l

module _ (d : List ℕ) (base : List (P 7)) (fs gs : List Numbered) where
  abbrev Finds : List Numbered → Validation → Type 0
  Finds ps v = value_at 7 d v.path (reading 7 d base (trees ps)) ≡ Some v.value

  one_no : (v w : Validation) → Finds fs v → Finds gs w → 3 ≤ tell_one (said_by fs) (said_by gs) v w → ⊥
  one_no v w a b h =
      go (same_path v.path w.path) refl (eqb v.value w.value) refl (decides (said_by fs) (said_by gs) v.path) refl h
    where
      go : (p : Bool) → same_path v.path w.path ≡ p → (q : Bool) → eqb v.value w.value ≡ q
          → (r : Bool) → decides (said_by fs) (said_by gs) v.path ≡ r → 3 ≤ cond p (cond q 1 (cond r 3 2)) 0 → ⊥
      go false e q f r g l = omega arith
      go true e true f r g l = omega arith
      go true e false f false g l = omega arith
      go true e false f true g l =
          let b' : value_at 7 d v.path (reading 7 d base (trees gs)) ≡ Some w.value =
          ap (λ (x : Path). value_at 7 d x (reading 7 d base (trees gs))) (path_is v.path w.path e) ∙ b in
          let z : v.value ≡ w.value = agree d base fs gs v.path g v.value w.value a b' in
          true≢false (sym (eq-eqb v.value w.value z) ∙ f)

  each-no : (v : Validation) (ws : List Validation) → Finds fs v → Every (Finds gs) ws
      → 3 ≤ tell_each (said_by fs) (said_by gs) v ws → ⊥
  each-no v [] a b h = omega arith
  each-no v (w ∷ ws) a b h =
      pick (tell_one (said_by fs) (said_by gs) v w) (tell_each (said_by fs) (said_by gs) v ws) h (one_no v w a b.0)
      (each-no v ws a b.1)

  all-no : (vs ws : List Validation) → Every (Finds fs) vs → Every (Finds gs) ws
      → 3 ≤ tell_all (said_by fs) (said_by gs) vs ws → ⊥
  all-no [] ws a b h = omega arith
  all-no (v ∷ vs) ws a b h =
      pick (tell_each (said_by fs) (said_by gs) v ws) (tell_all (said_by fs) (said_by gs) vs ws) h (each-no v ws a.0 b)
      (all-no vs ws a.1 b)

-- both are candidates for the key
abbrev Keyed : ℕ → Frame → Type 0
Keyed key f = (is_key key f.says.base && some? f.validations) ≡ true

one_base : (key : ℕ) (a b : Option ℕ) → is_key key a ≡ true → is_key key b ≡ true → of_one_base a b ≡ true
one_base key None b e f = absurd (false≢true e)
one_base key (Some k) b e f = subst (λ (x : ℕ). is_key x b ≡ true) (sym (eqb-true k key e)) f

module _ (key : ℕ) (f g : Frame) (kf : Keyed key f) (kg : Keyed key g) where
  both-together : together (head_of f) (head_of g) ≡ true
  both-together =
      rw (
        one_base key f.says.base g.says.base (and_left (is_key key f.says.base) (some? f.validations) kf)
            (and_left (is_key key g.says.base) (some? g.validations) kg),
        and_right (is_key key f.says.base) (some? f.validations) kf,
        and_right (is_key key g.says.base) (some? g.validations) kg,
      )
      refl

  -- OV4: candidates that are apart do not hold together
  pub apart-no : are_apart (head_of f) (head_of g) ≡ true → (d : List ℕ) (base : List (P 7)) (fs gs : List (Field 7))
      → Holds 7 d base (candidate_of f) fs → Holds 7 d base (candidate_of g) gs → ⊥
  apart-no e d base fs gs hf hg =
      all-no d base f.params g.params f.validations g.validations
      (meets_every 7 d (reading 7 d base (trees f.params)) f.validations
      (subst (λ (z : List (Field 7)). Meets 7 d z f.validations) (reading-only 7 d base (trees f.params) fs hf.lawful) hf.meets))
      (meets_every 7 d (reading 7 d base (trees g.params)) g.validations
      (subst (λ (z : List (Field 7)). Meets 7 d z g.validations) (reading-only 7 d base (trees g.params) gs hg.lawful) hg.meets))
      (leb-true 3 (tell_all (head_of f).params (head_of g).params f.validations g.validations)
      (ap (λ (b : Bool). leb 3 (cond b (tell_all (head_of f).params (head_of g).params f.validations g.validations) 4)) (sym both-together) ∙ e))

-- ---- the candidates of a key
module _ (key : ℕ) (d : List ℕ) (base : List (P 7)) where
  abbrev Fails : Candidate 7 → Type 0
  Fails c = (fs : List (Field 7)) → Holds 7 d base c fs → ⊥

  abbrev standing : List Frame → List (Candidate 7)
  standing fs = map candidate_of (candidates key fs)

  -- where one holds, none that it is apart from holds
  fails_behind : (f : Frame) → Keyed key f → (fs : List (Field 7)) → Holds 7 d base (candidate_of f) fs → (gs : List Frame)
      → apart_from_all (head_of f) (map head_of gs) ≡ true → Every Fails (standing gs)
  fails_behind f kf fs h [] e = tt
  fails_behind f kf fs h (g ∷ gs) e =
      go (is_key key g.says.base && some? g.validations) refl
      (and_left (are_apart (head_of f) (head_of g)) (apart_from_all (head_of f) (map head_of gs)) e)
      (fails_behind f kf fs h gs (and_right (are_apart (head_of f) (head_of g)) (apart_from_all (head_of f) (map head_of gs)) e))
    where
      go : (b : Bool) → (is_key key g.says.base && some? g.validations) ≡ b → are_apart (head_of f) (head_of g) ≡ true
          → Every Fails (standing gs)
          → Every Fails (map candidate_of (cond b (g ∷ candidates key gs) (candidates key gs)))
      go true kg a ih = (λ zs k. apart-no key f g kf kg a d base fs zs h k, ih)
      go false kg a ih = ih

  -- OV5: of candidates that are all apart, none holds behind one that holds
  none-behind : (fs : List Frame) → all_apart (map head_of fs) ≡ true → (xs : List (Candidate 7)) (c : Candidate 7) (ys : List (Candidate 7))
      → standing fs ≡ xs ++ c ∷ ys → (zs : List (Field 7)) → Holds 7 d base c zs → Every Fails ys
  none-behind [] a xs c ys e zs h = absurd (none-split xs c ys e)
  none-behind (f ∷ fs) a xs c ys e zs h =
      go (is_key key f.says.base && some? f.validations) refl xs e
      (λ ws q. none-behind fs (and_right (apart_from_all (head_of f) (map head_of fs)) (all_apart (map head_of fs)) a) ws c ys q zs h)
    where
      from : apart_from_all (head_of f) (map head_of fs) ≡ true
      from = and_left (apart_from_all (head_of f) (map head_of fs)) (all_apart (map head_of fs)) a

      go : (b : Bool) → (is_key key f.says.base && some? f.validations) ≡ b → (ws : List (Candidate 7))
          → map candidate_of (cond b (f ∷ candidates key fs) (candidates key fs)) ≡ ws ++ c ∷ ys
          → ((vs : List (Candidate 7)) → standing fs ≡ vs ++ c ∷ ys → Every Fails ys) → Every Fails ys
      go false k ws q ih = ih ws q
      go true k [] q ih =
          subst (Every Fails) (tail-eq_of_cons-eq q)
          (fails_behind f k zs (subst (λ (z : Candidate 7). Holds 7 d base z zs) (sym (head-eq_of_cons-eq q)) h) fs from)
      go true k (w ∷ ws) q ih = ih ws (tail-eq_of_cons-eq q)

  -- OV5: one that holds is the only one
  pub only_one : (fs : List Frame) → all_apart (map head_of fs) ≡ true → (xs : List (Candidate 7)) (c : Candidate 7) (ys : List (Candidate 7))
      → standing fs ≡ xs ++ c ∷ ys → (zs : List (Field 7)) → Holds 7 d base c zs → Only 7 d base (standing fs) c zs
  only_one fs a xs c ys e zs h =
      record {
        front = xs;
        back = ys;
        place = e;
        holds = h;
        none_before = λ us x vs q gs k.
            let w : Every Fails (vs ++ c ∷ ys) =
            none-behind fs a us x (vs ++ c ∷ ys) (e ∙ ap (λ (z : List (Candidate 7)). z ++ c ∷ ys) q ∙ append_assoc us (x ∷ vs) (c ∷ ys)) gs k in
            every_split Fails vs c ys w zs h;
        none-behind = every_none 7 d base ys (none-behind fs a xs c ys e zs h);
      }
