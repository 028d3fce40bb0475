-- Laws on the first byte of a line of an accepted command text. Assumes nothing.
use mathlib.Core.Path.{◌≡◌, refl, sym, ap, ◌∙◌}
use mathlib.Core.Bool.{Bool, true, false, cond}
use mathlib.Core.List.{List, [], ◌∷◌}
use Prim.Native.Nat.{ℕ, suc, ◌-◌, ◌<◌}
use native.Mathlib.Nat.{add-zero}
use native.Mathlib.Numerals.{add-one}
use native.Mathlib.Omega.{arith}
use lib.Dec.{eqb}
use borrow.Author.Tests.{ne_eqb}
use lib.ListN.{length, get_or}
use lib.Seq.{get_or-drop}
use Rattle.text.specs.Text.{lines}
use Rattle.text.specs.Text as text
use Rattle.text.specs.Place.{First, unended, ended, after, longer, first, left, kind_of, Passes}
use Rattle.text.specs.Records.{records, rest, Readable}
use Rattle.text.specs.declared.Place.{Place}
use Rattle.text.proofs.Reading.{opened}
use Rattle.text.proofs.Passing.{Passed, passed}
use Rattle.command_text.specs.Form.{Record, param, group, item, variant, array, bit_flag, bit_field, const, bitmask, form}
use Rattle.command_text.specs.Rules.{rules}
use Rattle.command_class.specs.Definition.{letter, read_as, numbered, of_item, as_const, const_of}
use Rattle.command_class.specs.Find.{Begins, Follows}
use Rattle.command_class.proofs.Saying.{kind_letter}
use Rattle.std.specs.Prelude.{None}

-- the kind of a line is its first byte
first_byte : (l : List ℕ) (fs : List (List ℕ)) (more : List ℕ) → first l ≡ ended fs more → (kind_of fs ≡ 0 → ⊥) → kind_of fs ≡ get_or l 0 0
first_byte [] fs more e h = absurd (let z : ◌≡◌ {A = ℕ} 0 1 = cc in omega arith)
first_byte (x ∷ xs) fs more e h = go (eqb x 10) (eqb x 9) (first xs) e
  where
    with_kind : (gs : List (List ℕ)) → text.onto x gs ≡ fs → kind_of fs ≡ x
    with_kind [] q = rw (← q) refl
    with_kind ([] ∷ gs) q = rw (← q) refl
    with_kind ((y ∷ ys) ∷ gs) q = absurd (h (rw (← q) refl))

    go : (a b : Bool) (f : First) → cond a (ended ([] ∷ []) xs) (cond b (after ([] ∷ []) f) (longer x f)) ≡ ended fs more → kind_of fs ≡ x
    go true b f q = let z : [] ∷ [] ≡ fs = cc in absurd (h (rw (← z) refl))
    go false true unended q = absurd (let z : ◌≡◌ {A = ℕ} 0 1 = cc in omega arith)
    go false true (ended gs r) q = let z : [] ∷ gs ≡ fs = cc in absurd (h (rw (← z) refl))
    go false false unended q = absurd (let z : ◌≡◌ {A = ℕ} 0 1 = cc in omega arith)
    go false false (ended gs r) q = let z : text.onto x gs ≡ fs = cc in with_kind gs z

some_letter : (r : Record) → letter r ≡ 0 → ⊥
some_letter (param q) h = let z : ◌≡◌ {A = ℕ} 0x51 0 = h in omega arith
some_letter (group g) h = let z : ◌≡◌ {A = ℕ} 0x47 0 = h in omega arith
some_letter (item (variant s)) h = let z : ◌≡◌ {A = ℕ} 0x52 0 = h in omega arith
some_letter (item (array n a)) h = let z : ◌≡◌ {A = ℕ} 0x41 0 = h in omega arith
some_letter (item (bit_flag m n)) h = let z : ◌≡◌ {A = ℕ} 0x54 0 = h in omega arith
some_letter (item (bit_field b)) h = let z : ◌≡◌ {A = ℕ} 0x53 0 = h in omega arith
some_letter (item (const v n)) h = let z : ◌≡◌ {A = ℕ} 0x4b 0 = h in omega arith
some_letter (item (bitmask n)) h = let z : ◌≡◌ {A = ℕ} 0x4d 0 = h in omega arith

begins_as : (t : List ℕ) (p : Place) → Readable rules t p → p.at < length t → Begins t p (read_as (get_or t p.at 0))
begins_as t p r inside =
    let o = opened rules t p r inside in
    let k : read_as (kind_of o.cells) ≡ letter o.said = kind_letter o.cells o.said o.form_is in
    let b : kind_of o.cells ≡ get_or (left t p) 0 0 =
    first_byte (left t p) o.cells o.more o.first_is (λ z. some_letter o.said (sym k ∙ ap read_as z)) in
    let g : get_or t p.at 0 ≡ kind_of o.cells = sym (get_or-drop p.at t 0 0 ∙ ap (λ (n : ℕ). get_or t n 0) (add-zero p.at)) ∙ sym b in
    record {
      said = o.said;
      others = numbered (suc p.line) (records form (lines o.more));
      lines = ap (numbered p.line) o.rest_is;
      kind = ap read_as g ∙ k;
    }

module _ (t : List ℕ) (p : Place) (r : Readable rules t p) (inside : p.at < length t) where
  -- a U is read as an S
  pub begins_enum : get_or t p.at 0 ≡ 85 → Begins t p 83
  begins_enum e = rw e at (begins_as t p r inside)

  pub begins-other : (get_or t p.at 0 ≡ 85 → ⊥) → Begins t p (get_or t p.at 0)
  begins-other h = rw (ne_eqb (get_or t p.at 0) 85 h) at (begins_as t p r inside)

pub follows_at : (t : List ℕ) (p q : Place) → Readable rules t p → p.at < length t → Passes t p q → Follows t p q
follows_at t p q r inside pass =
    let h : Passed rules t p q = passed rules t p q r inside pass in
    record {
      said = h.said;
      lines = ap (numbered p.line) h.rest_is ∙ ap (λ (n : ℕ). record { line = p.line; says = h.said } ∷ numbered n (rest rules t q))
          (sym (pass.count ∙ add-one p.line));
      readable = h.next;
      on = pass.on;
    }

pub follows_less : (t : List ℕ) (p q : Place) → p.at < length t → Follows t p q → length t - q.at < length t - p.at
follows_less t p q inside follows = omega (arith, follows.on)

-- only a K has a const's value and name
pub const_alone : (x : Record) → (letter x ≡ 0x4b → ⊥) → (of_item as_const x ≡ None) × (const_of x ≡ [])
const_alone (param q) h = (refl, refl)
const_alone (group g) h = (refl, refl)
const_alone (item (variant s)) h = (refl, refl)
const_alone (item (array n a)) h = (refl, refl)
const_alone (item (bit_flag m n)) h = (refl, refl)
const_alone (item (bit_field b)) h = (refl, refl)
const_alone (item (const v n)) h = absurd (h refl)
const_alone (item (bitmask n)) h = (refl, refl)

pub ruleset begin_laws = (begins_enum, begins-other, follows_at)
