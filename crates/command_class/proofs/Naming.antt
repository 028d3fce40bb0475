-- Laws on the first K with a value under a Q. Assumes nothing.
use mathlib.Core.Path.{◌≡◌, refl, sym, ap, ◌∙◌}
use mathlib.Core.Bool.{Bool, true, false, cond}
use mathlib.Core.List.{List}
use Prim.Native.Nat.{ℕ, ◌≤◌}
use native.Mathlib.Omega.{arith}
use lib.Dec.{eqb}
use borrow.Author.Tests.{ne_eqb}
use lib.ListN.{length}
use Rattle.text.specs.Place.{In}
use Rattle.text.specs.Records.{Readable}
use Rattle.text.specs.declared.Place.{Place}
use Rattle.text.proofs.Reading.{rest_end}
use Rattle.command_text.specs.Form.{Record, param, group, item, variant, array, bit_flag, bit_field, const, bitmask}
use Rattle.command_text.specs.Rules.{begins, rules}
use Rattle.command_class.specs.Definition.{Item, numbered, under, letter, of_item, as_const, is_value, first_const, value_in}
use Rattle.command_class.specs.Find.{from, among, Says, Numbers, Begins, Follows}
use Rattle.command_class.specs.declared.Row.{Row}
use Rattle.command_class.proofs.Finding.{same_line, begins_kind}
use Rattle.command_class.proofs.Beginning.{follows_less, const_alone}

pub record Naming (t : List ℕ) (p₀ : Place) (v : ℕ) (p : Place) : Type 0 where
  pub readable : Readable rules t p
  pub so : first_const v (under (from t p₀)) ≡ first_const v (under (from t p))

pub const_start : (t : List ℕ) (p : Place) (v : ℕ) → Readable rules t p → Naming t p v p
const_start t p v r = record { readable = r; so = refl }

module _ (t : List ℕ) (p₀ : Place) (v : ℕ) (p : Place) (k : Naming t p₀ v p) where
  pub const_end : length t ≤ p.at → 0 ≡ first_const v (under (from t p₀))
  const_end h = sym (k.so ∙ ap (λ (is : List Item). first_const v (under is)) (ap (numbered p.line) (rest_end rules t p h)))

  pub const_in_lem : In t p
  const_in_lem = k.readable.inn

  module _ (kind : ℕ) (begin : Begins t p kind) (x : Bool) (is_x : x ≡ among 81 71 71 kind) where
    begins_is : x ≡ begins begin.said
    begins_is = is_x ∙ ap (among 81 71 71) begin.kind ∙ sym (begins_kind begin.said)

    pub const_stop : x ≡ true → 0 ≡ first_const v (under (from t p₀))
    const_stop e = sym (k.so ∙ rw (begin.lines, sym begins_is ∙ e) refl)

    module _ (plain : x ≡ false) (b : Bool) (is_b : b ≡ value_in v (from t p)) where
      told_const : first_const v (under (from t p₀)) ≡ cond b p.line (first_const v (under begin.others))
      told_const = k.so ∙ rw (is_b, begin.lines, sym begins_is ∙ plain) refl

      pub const_hit : b ≡ true → p.line ≡ first_const v (under (from t p₀))
      const_hit e = rw (told_const, e) refl

      pub const_next : b ≡ false → (q : Place) → Follows t p q → Naming t p₀ v q
      const_next e q follows =
          let rest : begin.others ≡ from t q = (same_line p.line _ _ begin.others (from t q) (sym begin.lines ∙ follows.lines)).1 in
          record { readable = follows.readable; so = rw (told_const, e, rest) refl }

pub ruleset const_laws = (const_start, const_end, const_in_lem, const_stop, const_hit, const_next, follows_less)

-- ---- is_const
module _ (t : List ℕ) (p : Place) (v kind : ℕ) (begin : Begins t p kind) where
  pub value_not : (kind ≡ 75 → ⊥) → false ≡ value_in v (from t p)
  value_not h = rw (begin.lines, (const_alone begin.said (λ z. h (begin.kind ∙ z))).0) refl

  pub value_other : (kind ≡ 75 → ⊥) → eqb kind 75 ≡ value_in v (from t p)
  value_other h = ne_eqb kind 75 h ∙ value_not h

  module _ (is-k : kind ≡ 75) where
    pub value-numbered : among 84 83 75 kind ≡ true
    value-numbered = rw is-k refl

    pub value_is : (r : Row) → Numbers t p r → eqb r.value v ≡ value_in v (from t p)
    value_is r n =
        let same : begin.said ≡ n.said = (same_line p.line _ _ begin.others n.others (sym begin.lines ∙ n.lines)).0 in
        rw n.lines (go n.said (sym (begin.kind ∙ ap letter same) ∙ is-k) n.says)
      where
        go : (x : Record) → letter x ≡ 75 → Says x r → eqb r.value v ≡ is_value v (of_item as_const x)
        go (param q) e says = absurd (let y : ◌≡◌ {A = ℕ} 0x51 75 = e in omega arith)
        go (group g) e says = absurd (let y : ◌≡◌ {A = ℕ} 0x47 75 = e in omega arith)
        go (item (variant s)) e says = absurd (let y : ◌≡◌ {A = ℕ} 0x52 75 = e in omega arith)
        go (item (array n a)) e says = absurd (let y : ◌≡◌ {A = ℕ} 0x41 75 = e in omega arith)
        go (item (bit_flag m n)) e says = absurd (let y : ◌≡◌ {A = ℕ} 0x54 75 = e in omega arith)
        go (item (bit_field b)) e says = absurd (let y : ◌≡◌ {A = ℕ} 0x53 75 = e in omega arith)
        go (item (const w n)) e says = rw says
        go (item (bitmask n)) e says = absurd (let y : ◌≡◌ {A = ℕ} 0x4d 75 = e in omega arith)

pub ruleset value_laws = (value_other, value-numbered, value_is)
