-- Laws on looking things up in an accepted command text, line by line. Assumes nothing.
use mathlib.Core.Path.{◌≡◌, refl, sym, ap, ◌∙◌}
use mathlib.Core.Bool.{Bool, true, false, cond, ◌||◌}
use mathlib.Core.List.{List, ◌∷◌}
use Prim.Native.Nat.{ℕ, ◌<◌}
use native.Mathlib.Numerals.{add-one}
use lib.Dec.{eqb}
use lib.ListN.{length}
use borrow.Author.Tests.{eq-eqb, ne_eqb}
use Rattle.text.specs.Place.{cells, Steps}
use Rattle.text.specs.Records.{rest, Readable}
use Rattle.text.specs.declared.Place.{Place}
use Rattle.text.specs.declared.Line.{Line}
use Rattle.text.proofs.Reading.{Said, said_step}
use Rattle.command_text.specs.Form.{Record, param, group, item, variant, array, bit_flag, bit_field, const, bitmask, form}
use Rattle.command_text.specs.Form.{said, form}
use Rattle.command_text.specs.Form as form
use Rattle.command_text.specs.Rules.{begins, rules}
use Rattle.command_class.specs.Definition.{Item, numbered, letter, read_as}
use Rattle.command_class.specs.Find.{from, among}
use Rattle.command_text.proofs.Keeping.{brief}
use Rattle.command_class.proofs.Saying.{kind_letter}
use Rattle.std.specs.Prelude.{Some}

-- ---- a line of a text that is read
pub record Lined (t : List ℕ) (p : Place) (l : Line) : Type 0 where
  pub says : Record
  pub form_is : form (cells t l) ≡ Some says
  pub kind_is : read_as l.kind ≡ letter says
  pub lines : from t p ≡ record { line = p.line; says = says } ∷ from t l.next
  pub next : Readable rules t l.next

pub lined : (t : List ℕ) (p : Place) (l : Line) → Readable rules t p → p.at < length t → Steps t p l → Lined t p l
lined t p l readable inside step =
    let h : Said rules t p l = said_step rules brief t p l readable inside step in
    record {
      says = h.said;
      form_is = h.form_is;
      kind_is = ap read_as step.kind_is ∙ kind_letter (cells t l) h.said h.form_is;
      lines = ap (numbered p.line) h.rest_is ∙ ap (λ (n : ℕ). record { line = p.line; says = h.said } ∷ numbered n (rest rules t l.next))
          (sym (step.passes.count ∙ add-one p.line));
      next = h.next;
    }

-- the first lines of two equal lists say the same, and the same follows them
pub same_line : (n : ℕ) (x y : Record) (is js : List Item)
    → ◌≡◌ {A = List Item} (record { line = n; says = x } ∷ is) (record { line = n; says = y } ∷ js) → (x ≡ y) × (is ≡ js)
same_line n x y is js e =
    (let i : ◌≡◌ {A = Item} (record { line = n; says = x }) (record { line = n; says = y }) = cc in ap (λ (i : Item). i.says) i, cc)

-- a letter that is read as another than S is that one
pub read_other : (k b : ℕ) → (b ≡ 83 → ⊥) → read_as k ≡ b → k ≡ b
read_other k b h e = go (eqb k 85) e
  where
    go : (u : Bool) → cond u 83 k ≡ b → k ≡ b
    go true q = absurd (h (sym q))
    go false q = q

pub begins_kind : (r : Record) → begins r ≡ among 81 71 71 (letter r)
begins_kind (param q) = refl
begins_kind (group g) = refl
begins_kind (item (variant s)) = refl
begins_kind (item (array n a)) = refl
begins_kind (item (bit_flag m n)) = refl
begins_kind (item (bit_field b)) = refl
begins_kind (item (const v n)) = refl
begins_kind (item (bitmask n)) = refl

-- is a kind one of three
module _ (a b c k : ℕ) where
  pub among_first : k ≡ a → true ≡ among a b c k
  among_first e = rw (eq-eqb k a e)

  pub among_second : (k ≡ a → ⊥) → k ≡ b → true ≡ among a b c k
  among_second h e = rw (ne_eqb k a h, eq-eqb k b e)

  -- the same, told by the test
  pub first_among : k ≡ a → eqb k a ≡ among a b c k
  first_among e = rw (eq-eqb k a e)

  pub second_among : (k ≡ a → ⊥) → k ≡ b → eqb k b ≡ among a b c k
  second_among h e = rw (ne_eqb k a h, eq-eqb k b e)

  pub among-third : (k ≡ a → ⊥) → (k ≡ b → ⊥) → eqb k c ≡ among a b c k
  among-third h e = rw (ne_eqb k a h, ne_eqb k b e)

-- or one of two
pub among_either : (a b k : ℕ) → (k ≡ a → ⊥) → eqb k b ≡ among a b b k
among_either a b k h = rw (ne_eqb k a h) (go (eqb k b))
  where
    go : (x : Bool) → x ≡ (x || x)
    go true = refl
    go false = refl

pub ruleset among_laws = (among_first, among_second, first_among, second_among, among-third, among_either)
