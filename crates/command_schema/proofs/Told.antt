-- What a loaded row tells of the heads that are left. Assumes nothing.
use mathlib.Core.Path.{◌≡◌, refl, sym, ap, ◌∙◌, subst}
use mathlib.Core.Bool.{Bool, true, false, cond, ◌&&◌}
use mathlib.Core.List.{List, [], ◌∷◌}
use Prim.Native.Nat.{ℕ, zero, suc, ◌+◌, ◌≤◌, ◌<◌}
use native.Mathlib.Nat.{add-zero}
use native.Mathlib.Omega.{arith}
use lib.Dec.{eqb}
use lib.ListN.{length, drop, drop_of_length-le}
use borrow.Author.Tests.{eqb-true, eq-eqb}
use Rattle.text.specs.Text.{lines}
use Rattle.text.specs.Records.{records}
use Rattle.command_text.specs.Form.{Group, form}
use Rattle.command_text.specs.Rules.{verdict}
use Rattle.command_class.specs.Definition.{Parameter, single, repeated}
use Rattle.command_class.proofs.Limits.{accepted-within}
use Rattle.command_rules.specs.Field.{field_of}
use Rattle.command_rules.specs.Limits.{SmallAll, SmallEntries}
use Rattle.command_schema.specs.Heads.{Head, is_q, is_g, heads_of, members_of, entries_of}
use Rattle.command_schema.specs.Loaded.{SmallHeads, loaded_at, field_in, is_member, is_outer, Stands, TellsG, Tells, Told, IsLoaded}
use Rattle.command_schema.specs.declared.Loaded.{Loaded}
use Rattle.command_schema.proofs.Heads.{heads_small}
use Rattle.std.specs.Prelude.{Ok}

-- ---- the head that row j tells
pub record HeadAt (t d : List ℕ) (j : ℕ) (hs : List Head) : Type 0 where
  pub head : Head
  pub rest : drop j hs ≡ head ∷ drop (j + 1) hs
  pub tells : Tells t (loaded_at d j) head

told_at : (t d : List ℕ) (i : ℕ) (hs : List Head) (k : ℕ) → Told t d i hs → k < length hs → (h : Head) × (drop k hs ≡ h ∷ drop (k + 1) hs)
    × Tells t (loaded_at d (i + k)) h
told_at t d i [] k told h = absurd (omega arith)
told_at t d i (x ∷ xs) zero told h = (x, refl, rw add-zero told.0)
told_at t d i (x ∷ xs) (suc k) told h =
    let r = told_at t d (i + 1) xs k told.1 (omega arith) in
    let e : i + 1 + k ≡ i + suc k = omega arith in
    let z : suc k + 1 ≡ suc (k + 1) = omega arith in
    (r.0, rw z r.1, rw e at r.2)

module _ (t d : List ℕ) (n : ℕ) (loaded : IsLoaded t d n) (j : ℕ) where
  pub head_at : j < n → HeadAt t d j (heads_of t)
  head_at h =
      let c = loaded.count in
      let r = told_at t d 0 (heads_of t) j loaded.told (omega arith) in
      let e : 0 + j ≡ j = omega arith in
      record { head = r.0; rest = r.1; tells = rw e at r.2 }

  pub none_at : n ≤ j → drop j (heads_of t) ≡ []
  none_at h = let c = loaded.count in drop_of_length-le (heads_of t) {i = j} (omega arith)

-- ---- a Q among the members or in the outer list
pub record IsParam (t : List ℕ) (l : Loaded) (q : Parameter) : Type 0 where
  pub field : field_in t l ≡ field_of q
  pub stands : Stands t l

member_kind : (l : Loaded) → is_member l ≡ true → (l.kind ≡ 0x51) × (l.level ≡ 1)
member_kind l h = go (eqb l.kind 0x51) (eqb l.level 1) refl refl h
  where
    go : (a b : Bool) → eqb l.kind 0x51 ≡ a → eqb l.level 1 ≡ b → (a && b) ≡ true → (l.kind ≡ 0x51) × (l.level ≡ 1)
    go true true p q e = (eqb-true l.kind 0x51 p, eqb-true l.level 1 q)
    go true false p q e = absurd (let z : ◌≡◌ {A = ℕ} 0 1 = cc in omega arith)
    go false b p q e = absurd (let z : ◌≡◌ {A = ℕ} 0 1 = cc in omega arith)

outer_kind : (l : Loaded) → is_outer l ≡ true → (l.kind ≡ 0x51) × (l.level ≡ 0)
outer_kind l h = go (eqb l.kind 0x51) (eqb l.level 0) refl refl h
  where
    go : (a b : Bool) → eqb l.kind 0x51 ≡ a → eqb l.level 0 ≡ b → (a && b) ≡ true → (l.kind ≡ 0x51) × (l.level ≡ 0)
    go true true p q e = (eqb-true l.kind 0x51 p, eqb-true l.level 0 q)
    go true false p q e = absurd (let z : ◌≡◌ {A = ℕ} 0 1 = cc in omega arith)
    go false b p q e = absurd (let z : ◌≡◌ {A = ℕ} 0 1 = cc in omega arith)

-- a head that a row tells, and those that are left
module _ (t : List ℕ) (l : Loaded) (hs : List Head) where
  member_here : (h : Head) → Tells t l h → is_member l ≡ true → (q : Parameter) × (members_of (h ∷ hs) ≡ q ∷ members_of hs) × IsParam t l q
  unfolding members_of
  member_here (is_q q) w e = let k = member_kind l e in (q, rw (← w.level, eq-eqb l.level 1 k.1) refl, record { field = w.field; stands = w.stands })
  member_here (is_g line g) w e = absurd (let a : l.kind ≡ 71 = w.kind in let b : l.kind ≡ 81 = (member_kind l e).0 in omega arith)

  no-member_here : (h : Head) → Tells t l h → is_member l ≡ false → members_of (h ∷ hs) ≡ []
  unfolding members_of
  no-member_here (is_q q) w e = let f : eqb q.says.level 1 ≡ false = ap (λ (n : ℕ). eqb n 1) (sym w.level) ∙ (rw w.kind at e) in rw f refl
  no-member_here (is_g line g) w e = refl

  outer_here : (h : Head) → Tells t l h → is_outer l ≡ true → (q : Parameter) × (entries_of (h ∷ hs) ≡ single q ∷ entries_of hs) × IsParam t l q
  unfolding entries_of
  outer_here (is_q q) w e = let k = outer_kind l e in (q, rw (← w.level, eq-eqb l.level 0 k.1) refl, record { field = w.field; stands = w.stands })
  outer_here (is_g line g) w e = absurd (let a : l.kind ≡ 71 = w.kind in let b : l.kind ≡ 81 = (outer_kind l e).0 in omega arith)

  group_here : (h : Head) → Tells t l h → l.kind ≡ 71 → (g : Group)
      × (entries_of (h ∷ hs) ≡ repeated l.line g (members_of hs) ∷ entries_of hs) × TellsG l l.line g
  unfolding entries_of
  group_here (is_q q) w e = absurd (let a : l.kind ≡ 81 = w.kind in omega arith)
  group_here (is_g line g) w e = (g, rw w.line_is refl, record { kind = w.kind; line_is = refl; offset = w.offset; mask = w.mask; shift = w.shift })

  no_entry_here : (h : Head) → Tells t l h → is_outer l ≡ false → (l.kind ≡ 71 → ⊥) → entries_of (h ∷ hs) ≡ entries_of hs
  unfolding entries_of
  no_entry_here (is_q q) w e f = let z : eqb q.says.level 0 ≡ false = ap (λ (n : ℕ). eqb n 0) (sym w.level) ∙ (rw w.kind at e) in rw z refl
  no_entry_here (is_g line g) w e f = absurd (f w.kind)

-- ---- no Q has more than 32 T, S and U lines
small_drop : (i : ℕ) (hs : List Head) → SmallHeads hs → SmallHeads (drop i hs)
unfolding SmallHeads
small_drop zero hs h = h
small_drop (suc i) [] h = tt
small_drop (suc i) (x ∷ hs) h = small_drop i hs h.1

small_members : (hs : List Head) → SmallHeads hs → SmallAll (members_of hs)
unfolding SmallHeads SmallAll members_of
small_members [] h = tt
small_members (is_q q ∷ hs) h = go (eqb q.says.level 1) (small_members hs h.1)
  where
    go : (b : Bool) → SmallAll (members_of hs) → SmallAll (cond b (q ∷ members_of hs) [])
    go true ih = (h.0, ih)
    go false ih = tt
small_members (is_g line g ∷ hs) h = tt

small_entries : (hs : List Head) → SmallHeads hs → SmallEntries (entries_of hs)
unfolding SmallHeads SmallEntries entries_of
small_entries [] h = tt
small_entries (is_q q ∷ hs) h = go (eqb q.says.level 0) (small_entries hs h.1)
  where
    go : (b : Bool) → SmallEntries (entries_of hs) → SmallEntries (cond b (single q ∷ entries_of hs) (entries_of hs))
    go true ih = (h.0, ih)
    go false ih = ih
small_entries (is_g line g ∷ hs) h = (small_members hs h.1, small_entries hs h.1)

-- the entries of an accepted text
pub accepted_small : (t : List ℕ) → verdict t ≡ Ok tt → SmallEntries (entries_of (heads_of t))
accepted_small t e = small_entries (heads_of t) (heads_small 1 (records form (lines t)) (accepted-within t e).1.under)

module _ (t d : List ℕ) (n : ℕ) (loaded : IsLoaded t d n) where
  pub members_small : (i : ℕ) → SmallAll (members_of (drop i (heads_of t)))
  members_small i = small_members (drop i (heads_of t)) (small_drop i (heads_of t) loaded.small)

  pub entries_small : SmallEntries (entries_of (heads_of t))
  entries_small = small_entries (heads_of t) loaded.small

  -- what row j tells
  module _ (j : ℕ) (l : Loaded) (is-l : l ≡ loaded_at d j) (h : j < n) where
    here : HeadAt t d j (heads_of t)
    here = head_at t d n loaded j h

    tells : Tells t l here.head
    unfolding here
    tells = subst (λ (x : Loaded). Tells t x (head_at t d n loaded j h).head) (sym is-l) (head_at t d n loaded j h).tells

    pub record MemberAt : Type 0 where
      pub param : Parameter
      pub rest : members_of (drop j (heads_of t)) ≡ param ∷ members_of (drop (j + 1) (heads_of t))
      pub is : IsParam t l param

    pub member_at : is_member l ≡ true → MemberAt
    member_at e =
        let r = member_here t l (drop (j + 1) (heads_of t)) here.head tells e in
        record { param = r.0; rest = ap members_of here.rest ∙ r.1; is = r.2 }

    pub no-member_at : is_member l ≡ false → members_of (drop j (heads_of t)) ≡ []
    no-member_at e = ap members_of here.rest ∙ no-member_here t l (drop (j + 1) (heads_of t)) here.head tells e

    pub record OuterAt : Type 0 where
      pub param : Parameter
      pub rest : entries_of (drop j (heads_of t)) ≡ single param ∷ entries_of (drop (j + 1) (heads_of t))
      pub is : IsParam t l param

    pub outer_at : is_outer l ≡ true → OuterAt
    outer_at e =
        let r = outer_here t l (drop (j + 1) (heads_of t)) here.head tells e in
        record { param = r.0; rest = ap entries_of here.rest ∙ r.1; is = r.2 }

    pub record GroupAt : Type 0 where
      pub group : Group
      pub rest : entries_of (drop j (heads_of t)) ≡ repeated l.line group (members_of (drop (j + 1) (heads_of t))) ∷ entries_of (drop (j + 1) (heads_of t))
      pub is : TellsG l l.line group

    pub group_at_lem : l.kind ≡ 71 → GroupAt
    group_at_lem e =
        let r = group_here t l (drop (j + 1) (heads_of t)) here.head tells e in
        record { group = r.0; rest = ap entries_of here.rest ∙ r.1; is = r.2 }

    pub no_entry_at : is_outer l ≡ false → (l.kind ≡ 71 → ⊥) → entries_of (drop j (heads_of t)) ≡ entries_of (drop (j + 1) (heads_of t))
    no_entry_at e f = ap entries_of here.rest ∙ no_entry_here t l (drop (j + 1) (heads_of t)) here.head tells e f
