-- What a path finds by two headers of one base. Assumes nothing.
use mathlib.Core.Path.{◌≡◌, refl, sym, ap, ◌∙◌}
use mathlib.Core.Bool.{Bool, true, false, cond, not, ◌&&◌, ◌||◌}
use mathlib.Core.List.{List, [], ◌∷◌, ◌++◌, map}
use Prim.Native.Nat.{ℕ, zero, suc, ◌+◌, ◌-◌}
use native.Mathlib.Omega.{arith}
use lib.Dec.{leb}
use Rattle.laws.proofs.Bools.{and_left, and_right}
use Rattle.text.specs.Text.{same}
use Rattle.text.specs.Print.{Every}
use Rattle.frame_text.specs.Form.{Param}
use Rattle.frame_definition.specs.Definition.{Numbered}
use Rattle.header_rules.specs.Data.{Name, Path, Node, Kid, P, Seen, Inner, Field, total}
use Rattle.header_rules.specs.Find.{value_of, first_named, through, in_first, value_at, width_of}
use Rattle.header_rules.specs.Order.{Rising, ordered}
use Rattle.header_rules.specs.Walk.{exists, packed, inner_at, field_at, listed, base_read, reading}
use Rattle.header_rules.specs.Trees.{node, trees}
use Rattle.header_rules.proofs.Order.{ordered-only, every_ordered}
use Rattle.header_rules.proofs.Renumber.{renode, value_same, reading-same}
use Rattle.header_rules.proofs.Trees.{trees_renumber, renumber}
use Rattle.overlaps.specs.Overlaps.{has_outer, straight, leads, said_by, decides}
use Rattle.overlaps.proofs.Forks.{plainly, zeroed, Other, Fork, Deeper, of_lines, outer, no_outer}
use Rattle.std.specs.Prelude.{Option, Some, None}

-- those that rise are in order
rising_ordered : {K : Type 0} (ps : List (Node K)) → Rising ps → ordered ps ≡ ps
rising_ordered ps r = sym (ordered-only ps ps (record { rising = r; ties = λ o. refl }))

-- ---- among fields
module _ {A G : Type 0} (x : Name) where
  abbrev or_else : Option (Seen (Node A) G) → Option (Seen (Node A) G) → Option (Seen (Node A) G)
  or_else None o = o
  or_else (Some f) o = Some f

  first-append : (fs gs : List (Seen (Node A) G)) → first_named x (fs ++ gs) ≡ or_else (first_named x fs) (first_named x gs)
  unfolding first_named
  first-append [] gs = refl
  first-append (f ∷ fs) gs = go (same f.param.name x) (first-append fs gs)
    where
      go : (b : Bool) → first_named x (fs ++ gs) ≡ or_else (first_named x fs) (first_named x gs)
          → cond b (Some f) (first_named x (fs ++ gs)) ≡ or_else (cond b (Some f) (first_named x fs)) (first_named x gs)
      go true ih = refl
      go false ih = ih

module _ (n : ℕ) (d : List ℕ) (x : Name) where
  -- no field has a name that no P has
  none-listed : (ps : List (P n)) → Every (Other x) ps → (s : ℕ) (before : List (Field n)) → first_named x (listed n d ps s before) ≡ None
  unfolding first_named listed
  none-listed [] a s before = refl
  none-listed (p ∷ ps) a s before =
      go (exists n d p s before) (none-listed ps a.1 (s + width_of n d p before) (before ++ (field_at n d p s before ∷ [])))
    where
      go : (b : Bool) → first_named x (listed n d ps (s + width_of n d p before) (before ++ (field_at n d p s before ∷ []))) ≡ None
          → first_named x (cond b (field_at n d p s before ∷ listed n d ps (s + width_of n d p before) (before ++ (field_at n d p s before ∷ []))) [])
          ≡ None
      go true ih = rw a.0 ih
      go false ih = refl

  none-packed : (ps : List (P n)) → Every (Other x) ps → (end room : ℕ) (before : List (Field n))
      → first_named x (packed n d (field_at n d) ps end room before) ≡ None
  unfolding first_named packed
  none-packed [] a end room before = refl
  none-packed (p ∷ ps) a end room before =
      go (leb p.bits room) (exists n d p (end - p.bits) before) (none-packed ps a.1 (end - p.bits) (room - p.bits) (before ++ (f ∷ [])))
      (none-packed ps a.1 (end - p.bits) (room - p.bits) before)
    where
      f : Field n
      f = field_at n d p (end - p.bits) before

      rest : List (Field n) → List (Field n)
      rest known = packed n d (field_at n d) ps (end - p.bits) (room - p.bits) known

      go : (t u : Bool) → first_named x (rest (before ++ (f ∷ []))) ≡ None → first_named x (rest before) ≡ None
          → first_named x (cond t (cond u (f ∷ rest (before ++ (f ∷ []))) (rest before)) []) ≡ None
      go false u i j = refl
      go true true i j = rw a.0 i
      go true false i j = j

  -- two lists that fork at the name x: what the path finds from there on is the same
  module _ (path : Path) (deeper : Path → List (Inner n)
      → Option ℕ) (line : Numbered) (ia ib : List (Kid n)) (named : same line.says.name x ≡ true)
      (alike : (s : ℕ) (before : List (Field n)) → through d deeper path (Some (field_at n d (node line ia) s before))
      ≡ through d deeper path (Some (field_at n d (node line ib) s before))) where
    abbrev Found : List (Field n) → List (Field n) → Type 0
    Found fs gs = through d deeper path (first_named x fs) ≡ through d deeper path (first_named x gs)

    listed_fork : (front ks ls : List (P n)) → Every (Other x) front → (s : ℕ) (before : List (Field n))
        → Found (listed n d (front ++ node line ia ∷ ks) s before) (listed n d (front ++ node line ib ∷ ls) s before)
    unfolding first_named listed exists width_of
    listed_fork [] ks ls o s before = go (exists n d (node line ia) s before)
      where
        fa : Field n
        fa = field_at n d (node line ia) s before

        fb : Field n
        fb = field_at n d (node line ib) s before

        go : (b : Bool) → Found (cond b (fa ∷ listed n d ks (s + width_of n d (node line ia) before) (before ++ (fa ∷ []))) [])
            (cond b (fb ∷ listed n d ls (s + width_of n d (node line ia) before) (before ++ (fb ∷ []))) [])
        go true = rw named (alike s before)
        go false = refl
    listed_fork (p ∷ front) ks ls o s before =
        go (exists n d p s before) (listed_fork front ks ls o.1 (s + width_of n d p before) (before ++ (f ∷ [])))
      where
        f : Field n
        f = field_at n d p s before

        rest : List (P n) → List (Field n)
        rest ps = listed n d ps (s + width_of n d p before) (before ++ (f ∷ []))

        go : (b : Bool) → Found (rest (front ++ node line ia ∷ ks)) (rest (front ++ node line ib ∷ ls))
            → Found (cond b (f ∷ rest (front ++ node line ia ∷ ks)) []) (cond b (f ∷ rest (front ++ node line ib ∷ ls)) [])
        go true ih = rw o.0 ih
        go false ih = refl

    packed_fork : (front ks ls : List (P n)) → Every (Other x) front → Every (Other x) ks → Every (Other x) ls
        → (end room : ℕ) (before : List (Field n))
        → Found (packed n d (field_at n d) (front ++ node line ia ∷ ks) end room before) (packed n d (field_at n d)
        (front ++ node line ib ∷ ls) end room before)
    unfolding first_named packed exists width_of
    packed_fork [] ks ls o oa ob end room before =
        go (leb w room) (exists n d (node line ia) (end - w) before) (none-packed ks oa (end - w) (room - w) before)
        (none-packed ls ob (end - w) (room - w) before)
      where
        w : ℕ
        w = line.says.bits

        fa : Field n
        fa = field_at n d (node line ia) (end - w) before

        fb : Field n
        fb = field_at n d (node line ib) (end - w) before

        rest : List (P n) → List (Field n) → List (Field n)
        rest ps known = packed n d (field_at n d) ps (end - w) (room - w) known

        go : (t u : Bool) → first_named x (rest ks before) ≡ None → first_named x (rest ls before) ≡ None
            → Found (cond t (cond u (fa ∷ rest ks (before ++ (fa ∷ []))) (rest ks before)) [])
            (cond t (cond u (fb ∷ rest ls (before ++ (fb ∷ []))) (rest ls before)) [])
        go false u i j = refl
        go true true i j = rw named (alike (end - w) before)
        go true false i j = rw (i, j) refl
    packed_fork (p ∷ front) ks ls o oa ob end room before =
        go (leb p.bits room) (exists n d p e before) (packed_fork front ks ls o.1 oa ob e (room - p.bits) (before ++ (f ∷ [])))
        (packed_fork front ks ls o.1 oa ob e (room - p.bits) before)
      where
        e : ℕ
        e = end - p.bits

        f : Field n
        f = field_at n d p e before

        rest : List (P n) → List (Field n) → List (Field n)
        rest ps known = packed n d (field_at n d) ps e (room - p.bits) known

        go : (t u : Bool) → Found (rest (front ++ node line ia ∷ ks) (before ++ (f ∷ []))) (rest (front ++ node line ib ∷ ls) (before ++ (f ∷ [])))
            → Found (rest (front ++ node line ia ∷ ks) before) (rest (front ++ node line ib ∷ ls) before)
            → Found (cond t (cond u (f ∷ rest (front ++ node line ia ∷ ks) (before ++ (f ∷ []))) (rest (front ++ node line ia ∷ ks) before)) [])
            (cond t (cond u (f ∷ rest (front ++ node line ib ∷ ls) (before ++ (f ∷ []))) (rest (front ++ node line ib ∷ ls) before)) [])
        go false u i j = refl
        go true true i j = rw o.0 i
        go true false i j = j

-- ---- inside a field
abbrev pub deeper_at : (n : ℕ) → List ℕ → Path → List (Inner n) → Option ℕ
deeper_at zero d rest inner = None
deeper_at (suc n) d rest inner = value_at n d rest inner

value_is : (n : ℕ) (d : List ℕ) (x : Name) (path : Path) (fs : List (Field n))
    → value_at n d (x ∷ path) fs ≡ through d (deeper_at n d) path (first_named x fs)
unfolding value_at in_first
value_is zero d x path fs = refl
value_is (suc n) d x path fs = refl

no-path : (n : ℕ) (d : List ℕ) (fs : List (Field n)) → value_at n d [] fs ≡ None
unfolding value_at in_first
no-path zero d fs = refl
no-path (suc n) d fs = refl

-- the P lines inside a P that both have: the path finds the same in them
abbrev Alike : (n : ℕ) → List ℕ → Path → Numbered → List (Kid n) → List (Kid n) → Type 0
Alike n d path line k l = (s : ℕ) (before : List (Field n))
    → through d (deeper_at n d) path (Some (field_at n d (node line k) s before))
    ≡ through d (deeper_at n d) path (Some (field_at n d (node line l) s before))

packed-same : (n : ℕ) (d : List ℕ) (y : Name) (path : Path) (ks ls : List (P n)) (h : Fork n (Deeper n) y path ks ls)
    → Alike n d path h.line h.inside_a h.inside-b → (end wide : ℕ)
    → value_at n d (y ∷ path) (packed n d (field_at n d) (ordered ks) end wide [])
    ≡ value_at n d (y ∷ path) (packed n d (field_at n d) (ordered ls) end wide [])
packed-same n d y path ks ls h alike end wide =
    value_is n d y path (packed n d (field_at n d) (ordered ks) end wide [])
    ∙ ap (λ (ps : List (P n)). through d (deeper_at n d) path (first_named y (packed n d (field_at n d) ps end wide [])))
    (rising_ordered ks h.rising_a ∙ h.first)
    ∙ packed_fork n d y path (deeper_at n d) h.line h.inside_a h.inside-b h.named alike h.front h.behind_a h.behind-b h.others
    h.others_a h.others_b end wide []
    ∙ ap (λ (ps : List (P n)). through d (deeper_at n d) path (first_named y (packed n d (field_at n d) ps end wide [])))
    (sym (rising_ordered ls h.rising_b ∙ h.second))
    ∙ sym (value_is n d y path (packed n d (field_at n d) (ordered ls) end wide []))

inner_same : (n : ℕ) (d : List ℕ) (path : Path) (line : Numbered) (k l : List (Kid n)) → Deeper n path k l → Alike n d path line k l
unfolding through value_of width_of inner_at
inner_same n d [] line k l h s before = refl
inner_same zero d (y ∷ path) line k l h s before = refl
inner_same (suc n) d (y ∷ path) line k l h s before =
    packed-same n d y path k l h (inner_same n d path h.line h.inside_a h.inside-b h.next) (s + width_of (suc n) d (node line k) before)
    (width_of (suc n) d (node line k) before)

-- ---- the readings of two headers
module _ (n : ℕ) (d : List ℕ) (base : List (P n)) where
  abbrev B : List (Field n)
  B = base_read n d base

  abbrev own : List (P n) → List (Field n)
  own ps = listed n d (ordered ps) (total B) B

  read_is : (ps : List (P n)) → reading n d base ps ≡ B ++ own ps
  unfolding reading
  read_is ps = refl

  fork_same : (path : Path) (ks ls : List (P n)) → Deeper (suc n) path ks ls
      → value_at n d path (reading n d base ks) ≡ value_at n d path (reading n d base ls)
  fork_same [] ks ls h = no-path n d (reading n d base ks) ∙ sym (no-path n d (reading n d base ls))
  fork_same (x ∷ path) ks ls h =
      value_is n d x path (reading n d base ks)
      ∙ ap (λ (fs : List (Field n)). through d (deeper_at n d) path (first_named x fs)) (read_is ks)
      ∙ ap (through d (deeper_at n d) path) (first-append x B (own ks))
      ∙ go (first_named x B) found
      ∙ ap (through d (deeper_at n d) path) (sym (first-append x B (own ls)))
      ∙ ap (λ (fs : List (Field n)). through d (deeper_at n d) path (first_named x fs)) (sym (read_is ls))
      ∙ sym (value_is n d x path (reading n d base ls))
    where
      found : through d (deeper_at n d) path (first_named x (own ks)) ≡ through d (deeper_at n d) path (first_named x (own ls))
      found =
          ap (λ (ks : List (P n)). through d (deeper_at n d) path (first_named x (listed n d ks (total B) B))) (rising_ordered ks h.rising_a ∙ h.first)
          ∙ listed_fork n d x path (deeper_at n d) h.line h.inside_a h.inside-b h.named
          (inner_same n d path h.line h.inside_a h.inside-b h.next) h.front h.behind_a h.behind-b h.others (total B) B
          ∙ ap (λ (ks : List (P n)). through d (deeper_at n d) path (first_named x (listed n d ks (total B) B)))
          (sym (rising_ordered ls h.rising_b ∙ h.second))

      go : (o : Option (Field n))
          → through d (deeper_at n d) path (first_named x (own ks)) ≡ through d (deeper_at n d) path (first_named x (own ls))
          → through d (deeper_at n d) path (or_else x o (first_named x (own ks))) ≡ through d (deeper_at n d) path (or_else x o (first_named x (own ls)))
      go None e = e
      go (Some f) e = refl

  -- by a header that has no field of its own of that name, the path finds what it finds in the base
  module _ (x : Name) (path : Path) where
    base_only : (ks : List (P n)) → Every (Other x) ks → value_at n d (x ∷ path) (reading n d base ks) ≡ value_at n d (x ∷ path) B
    base_only ks o =
        value_is n d x path (reading n d base ks)
        ∙ ap (λ (fs : List (Field n)). through d (deeper_at n d) path (first_named x fs)) (read_is ks)
        ∙ ap (through d (deeper_at n d) path) (first-append x B (own ks)
        ∙ ap (or_else x (first_named x B)) (none-listed n d x (ordered ks) (every_ordered (Other x) ks o) (total B) B)
        ∙ left (first_named x B))
        ∙ sym (value_is n d x path B)
      where
        left : (o : Option (Field n)) → or_else x o None ≡ o
        left None = refl
        left (Some f) = refl

    base_first : (ls : List (P n)) (u : ℕ) → value_at n d (x ∷ path) B ≡ Some u → value_at n d (x ∷ path) (reading n d base ls) ≡ Some u
    unfolding through
    base_first ls u e =
        value_is n d x path (reading n d base ls)
        ∙ ap (λ (fs : List (Field n)). through d (deeper_at n d) path (first_named x fs)) (read_is ls)
        ∙ ap (through d (deeper_at n d) path) (first-append x B (own ls))
        ∙ go (first_named x B) (sym (value_is n d x path B) ∙ e)
      where
        go : (o : Option (Field n)) → through d (deeper_at n d) path o ≡ Some u
            → through d (deeper_at n d) path (or_else x o (first_named x (own ls))) ≡ Some u
        go None q = absurd (let z : ◌≡◌ {A = ℕ} 0 1 = cc in omega arith)
        go (Some f) q = q

    one_without : (ks ls : List (P n)) → Every (Other x) ks → (u v : ℕ) → value_at n d (x ∷ path) (reading n d base ks) ≡ Some u
        → value_at n d (x ∷ path) (reading n d base ls) ≡ Some v → u ≡ v
    one_without ks ls o u v e f =
        let z : Some u ≡ Some v = sym (base_first ls u (sym (base_only ks o) ∙ e)) ∙ f in
        cc

-- ---- by what the P lines say
nothing : ℕ → ℕ
nothing k = 0

module _ (d : List ℕ) (base : List (P 7)) where
  abbrev bare : List (P 7)
  bare = map (renode nothing 7) base

  lines_bare : (fs : List Numbered) → map (renumber nothing) fs ≡ plainly (said_by fs)
  unfolding nothing
  lines_bare [] = refl
  lines_bare (f ∷ fs) = ap (λ (z : List Numbered). zeroed f.says ∷ z) (lines_bare fs)

  -- no rule looks at the numbers of P lines
  without-numbers : (path : Path) (fs : List Numbered) → value_at 7 d path (reading 7 d base (trees fs))
      ≡ value_at 7 d path (reading 7 d bare (of_lines 7 0 (said_by fs)))
  unfolding trees
  without-numbers path fs =
      sym (value_same nothing d 7 path (reading 7 d base (trees fs)))
      ∙ ap (value_at 7 d path) (sym (reading-same nothing d 7 base (trees fs)))
      ∙ ap (λ (ks : List (P 7)). value_at 7 d path (reading 7 d bare ks)) (sym (trees_renumber nothing fs))
      ∙ ap (λ (ls : List Numbered). value_at 7 d path (reading 7 d bare (trees ls))) (lines_bare fs)

  -- OV2, OV3: where the path decides, both find the same value
  pub agree : (fs gs : List Numbered) (path : Path) → decides (said_by fs) (said_by gs) path ≡ true → (u v : ℕ)
      → value_at 7 d path (reading 7 d base (trees fs)) ≡ Some u → value_at 7 d path (reading 7 d base (trees gs)) ≡ Some v → u ≡ v
  agree fs gs [] e u v a b =
      let z : None ≡ Some u = sym (no-path 7 d (reading 7 d base (trees fs))) ∙ a in
      absurd (let w : ◌≡◌ {A = ℕ} 0 1 = cc in omega arith)
  agree fs gs (x ∷ path) e u v a b =
      go (has_outer x ps) refl (has_outer x qs) refl e (sym (without-numbers (x ∷ path) fs) ∙ a) (sym (without-numbers (x ∷ path) gs) ∙ b)
    where
      ps : List Param
      ps = said_by fs

      qs : List Param
      qs = said_by gs

      forked : (leads 0 (x ∷ path) ps qs && (straight ps && straight qs)) ≡ true
          → value_at 7 d (x ∷ path) (reading 7 d bare (of_lines 7 0 ps)) ≡ value_at 7 d (x ∷ path) (reading 7 d bare (of_lines 7 0 qs))
      forked h =
          let both : (straight ps && straight qs) ≡ true = and_right (leads 0 (x ∷ path) ps qs) (straight ps && straight qs) h in
          fork_same 7 d bare (x ∷ path) (of_lines 7 0 ps) (of_lines 7 0 qs)
          (outer ps qs (x ∷ path) (and_left (leads 0 (x ∷ path) ps qs) (straight ps && straight qs) h) (and_left (straight ps) (straight qs) both)
          (and_right (straight ps) (straight qs) both))

      go : (m : Bool) → has_outer x ps ≡ m → (k : Bool) → has_outer x qs ≡ k
          → (not (m && k) || (leads 0 (x ∷ path) ps qs && (straight ps && straight qs))) ≡ true
          → value_at 7 d (x ∷ path) (reading 7 d bare (of_lines 7 0 ps)) ≡ Some u
          → value_at 7 d (x ∷ path) (reading 7 d bare (of_lines 7 0 qs)) ≡ Some v → u ≡ v
      go false p k q h i j = one_without 7 d bare x path (of_lines 7 0 ps) (of_lines 7 0 qs) (no_outer 7 x ps p) u v i j
      go true p false q h i j = sym (one_without 7 d bare x path (of_lines 7 0 qs) (of_lines 7 0 ps) (no_outer 7 x qs q) v u j i)
      go true p true q h i j = let z : Some u ≡ Some v = sym i ∙ forked h ∙ j in cc
