-- Laws on reading the lines of an accepted command text as rows of numbers. Assumes nothing.
use mathlib.Core.Path.{◌≡◌, refl, sym, ap, ◌∙◌}
use mathlib.Core.Bool.{Bool, true, false, cond, ◌&&◌, ◌||◌}
use mathlib.Core.List.{List, ◌∷◌}
use Prim.Native.Nat.{ℕ, ◌<◌}
use native.Mathlib.Omega.{arith}
use lib.Dec.{eqb, leb}
use lib.ListN.{length}
use borrow.Author.Tests.{eqb-true, eq-eqb, ne_eqb}
use Rattle.text.specs.Text.{field, worth, decimal, up_to, value, missing, name, optional_up_to, optional_value, optional}
use Rattle.text.specs.Text as text
use Rattle.text.specs.Place.{cells, Steps, Passes, Has}
use Rattle.text.specs.Records.{is_some, Readable}
use Rattle.text.specs.declared.Place.{Place}
use Rattle.text.specs.declared.Line.{Line}
use Rattle.text.specs.declared.Number.TheVariants.{Over}
use Rattle.text.specs.declared.Number.TheVariants as number
use Rattle.text.specs.declared.Optional.{Optional}
use Rattle.text.specs.declared.Optional.TheVariants.{Given, Missing, Wrong}
use Rattle.text.proofs.Laws.{cells-length}
use Rattle.text.proofs.Tests.{and_left, and_right, value_of, optional-value_of}
use Rattle.command_text.specs.Form.{Record, param, group, item, variant, array, bit_flag, bit_field, const, bitmask, type_of, known, param_of}
use Rattle.command_text.specs.Form.{group_fields, group_form, group_of, variant_fields, variant_form, size_of, array_form, ascii_of}
use Rattle.command_text.specs.Form.{bitmask_form, given, of_type, said, form}
use Rattle.command_text.specs.Rules.{rules}
use Rattle.command_class.specs.Definition.{Item, letter, read_as}
use Rattle.command_class.specs.Find.{from, Good, among, or_missing, optional_or, number_or, Tells, Numbers, IsRead, Begins, Follows}
use Rattle.command_class.specs.declared.Row.{Row}
use Rattle.command_text.specs.declared.ParamType.{ParamType}
use Rattle.command_text.specs.declared.ParamType.TheVariants.{Byte}
use Rattle.command_text.proofs.Laws.{group_shift, variant_shift}
use Rattle.command_class.proofs.Saying.{kind_letter}
use Rattle.command_class.proofs.Finding.{Lined, lined, same_line, read_other}
use Rattle.command_class.proofs.Beginning.{follows_at}
use Rattle.std.specs.Prelude.{Option, Some, None}
use Rattle.std.specs.Option.{unwrap_or}

-- ---- what may be missing
module _ (l : List ℕ) where
  or-missing-given : (m d u : Bool) → (m || (d && u)) ≡ true
      → optional_or (cond m Missing (text.given (cond d (cond u (number.Is (worth 0 l)) Over) number.Not))) ≡ or_missing (cond m None (Some (worth 0 l)))
  or-missing-given true d u e = refl
  or-missing-given false true true e = refl
  or-missing-given false true false e = absurd (let z : ◌≡◌ {A = ℕ} 0 1 = cc in omega arith)
  or-missing-given false false u e = absurd (let z : ◌≡◌ {A = ℕ} 0 1 = cc in omega arith)

  pub or-missing : optional_up_to 255 l ≡ true → number_or l ≡ or_missing (given l)
  unfolding number_or
  or-missing e = or-missing-given (missing l) (decimal l) (leb (worth 0 l) 255) e

module _ (s : List ℕ) (r : Optional) (is : r ≡ optional 255 s) where
  pub optional-given : (n : ℕ) → r ≡ Given n → n ≡ number_or s
  unfolding number_or
  optional-given n e = rw (← is, e)

  pub optional-missing : r ≡ Missing → 256 ≡ number_or s
  unfolding number_or
  optional-missing e = rw (← is, e)

  pub optional_wrong : r ≡ Wrong → 256 ≡ number_or s
  unfolding number_or
  optional_wrong e = rw (← is, e)

pub ruleset optional_laws = (optional-given, optional-missing, optional_wrong)

-- ---- a line of a kind
pub said_good : (fs : List (List ℕ)) (b : Bool) (y : Record) → form fs ≡ said b (Some y) → is_some (form fs) ≡ true → (b ≡ true)
    × (form fs ≡ Some y)
said_good fs true y e f = (refl, e)
said_good fs false y e f = absurd (let z : ◌≡◌ {A = Bool} false true = rw e at f in let w : ◌≡◌ {A = ℕ} 0 1 = cc in omega arith)

pub param_good : (fs : List (List ℕ)) (b : Bool) (o : Option ParamType) → form fs ≡ said b (of_type fs o) → is_some (form fs) ≡ true → (b ≡ true)
    × ((type : ParamType) × (o ≡ Some type) × (form fs ≡ Some (param (param_of fs type))))
param_good fs true (Some type) e f = (refl, (type, refl, e))
param_good fs true None e f = absurd (let z : ◌≡◌ {A = Bool} false true = rw e at f in let w : ◌≡◌ {A = ℕ} 0 1 = cc in omega arith)
param_good fs false o e f = absurd (let z : ◌≡◌ {A = Bool} false true = rw e at f in let w : ◌≡◌ {A = ℕ} 0 1 = cc in omega arith)

module _ (t : List ℕ) (l : Line) (good : Good t l) where
  abbrev fs : List (List ℕ)
  fs = cells t l

  has_of : (n : ℕ) (b : Bool) → (eqb (length fs) n && b) ≡ true → (k : ℕ) → k < n → Has t l k
  has_of n b e k h = record {
    marked = good.marked;
    there =
        omega (arith, cells-length t l.marks l.fields 0, eqb-true (length fs) n (and_left (eqb (length fs) n) b e));
  }

  -- G
  module _ (is : l.kind ≡ 71) where
    g_said : (group_form fs ≡ true) × (form fs ≡ Some (group (group_of fs)))
    g_said = said_good fs (group_form fs) _ (rw (sym good.kind_is ∙ is)) good.formed

    pub group_has : (k : ℕ) → k < 5 → Has t l k
    group_has k h = has_of 5 (group_fields fs) g_said.0 k h

    pub group_tells : (o m s : ℕ) → o ≡ value 255 (field 2 fs) → m ≡ value 255 (field 3 fs) → s ≡ value 255 (field 4 fs)
        → Tells t l (record { kind = 71; level = 0; typed = Byte; offset = o; mask = m; shift = s; value = 0; ascii = false })
    group_tells o m s eo em es =
        let w : group_fields fs ≡ true = and_right (eqb (length fs) 5) (group_fields fs) g_said.0 in
        let x : (up_to 255 (field 2 fs) && (up_to 255 (field 3 fs) && up_to 255 (field 4 fs))) ≡ true = and_right (name (field 1 fs)) _ w in
        let y : (up_to 255 (field 3 fs) && up_to 255 (field 4 fs)) ≡ true = and_right (up_to 255 (field 2 fs)) _ x in
        record {
          said = group (group_of fs);
          form_is = g_said.1;
          kind = refl;
          says = (
            eo ∙ value_of 255 (field 2 fs) (and_left (up_to 255 (field 2 fs)) (up_to 255 (field 3 fs) && up_to 255 (field 4 fs)) x),
            em ∙ value_of 255 (field 3 fs) (and_left (up_to 255 (field 3 fs)) (up_to 255 (field 4 fs)) y),
            es ∙ value_of 255 (field 4 fs) (group_shift fs w),
          );
        }

  ascii_of_lem : (f v : ℕ) → v ≡ value 1 (field f fs) → up_to 1 (field f fs) ≡ true → eqb v 1 ≡ ascii_of (field f fs)
  ascii_of_lem f v e u = ap (λ (n : ℕ). eqb n 1) (e ∙ value_of 1 (field f fs) u)

  -- R
  module _ (is : l.kind ≡ 82) where
    r_said : (variant_form fs ≡ true) × (form fs ≡ Some (item (variant (size_of fs))))
    r_said = said_good fs (variant_form fs) _ (rw (sym good.kind_is ∙ is)) good.formed

    pub variant_has : (k : ℕ) → k < 5 → Has t l k
    variant_has k h = has_of 5 (variant_fields fs) r_said.0 k h

    pub variant_tells : (o m s a : ℕ) → o ≡ value 255 (field 1 fs) → m ≡ value 255 (field 2 fs) → s ≡ optional_value 255 (field 3 fs)
        → a ≡ value 1 (field 4 fs)
        → Tells t l (record { kind = 82; level = 0; typed = Byte; offset = o; mask = m; shift = s; value = 0; ascii = eqb a 1 })
    variant_tells o m s a eo em es ea =
        let w : variant_fields fs ≡ true = and_right (eqb (length fs) 5) (variant_fields fs) r_said.0 in
        let x : (up_to 255 (field 2 fs) && (optional_up_to 255 (field 3 fs) && up_to 1 (field 4 fs))) ≡ true = and_right (up_to 255 (field 1 fs)) _ w in
        let y : (optional_up_to 255 (field 3 fs) && up_to 1 (field 4 fs)) ≡ true = and_right (up_to 255 (field 2 fs)) _ x in
        record {
          said = item (variant (size_of fs));
          form_is = r_said.1;
          kind = refl;
          says = (
            eo ∙ value_of 255 (field 1 fs) (and_left (up_to 255 (field 1 fs)) _ w),
            em ∙ value_of 255 (field 2 fs) (and_left (up_to 255 (field 2 fs)) _ x),
            es ∙ optional-value_of 255 (field 3 fs) (variant_shift fs w),
            ascii_of_lem 4 a ea (and_right (optional_up_to 255 (field 3 fs)) (up_to 1 (field 4 fs)) y),
          );
        }

  -- A
  module _ (is : l.kind ≡ 65) where
    a_said : (array_form fs ≡ true) × (form fs ≡ Some (item (array (worth 0 (field 1 fs)) (ascii_of (field 2 fs)))))
    a_said = said_good fs (array_form fs) _ (rw (sym good.kind_is ∙ is)) good.formed

    pub array_has : (k : ℕ) → k < 3 → Has t l k
    array_has k h = has_of 3 _ a_said.0 k h

    pub array_tells : (v a : ℕ) → v ≡ value 255 (field 1 fs) → a ≡ value 1 (field 2 fs)
        → Tells t l (record { kind = 65; level = 0; typed = Byte; offset = 0; mask = 0; shift = 0; value = v; ascii = eqb a 1 })
    array_tells v a ev ea =
        let w : (up_to 255 (field 1 fs) && up_to 1 (field 2 fs)) ≡ true = and_right (eqb (length fs) 3) _ a_said.0 in
        record {
          said = item (array (worth 0 (field 1 fs)) (ascii_of (field 2 fs)));
          form_is = a_said.1;
          kind = refl;
          says = (
            ev ∙ value_of 255 (field 1 fs) (and_left (up_to 255 (field 1 fs)) (up_to 1 (field 2 fs)) w),
            ascii_of_lem 2 a ea
                (and_right (up_to 255 (field 1 fs)) (up_to 1 (field 2 fs)) w),
          );
        }

  -- M
  module _ (is : l.kind ≡ 77) where
    m_said : (bitmask_form fs ≡ true) × (form fs ≡ Some (item (bitmask (given (field 1 fs)))))
    m_said = said_good fs (bitmask_form fs) _ (rw (sym good.kind_is ∙ is)) good.formed

    pub bitmask_has : (k : ℕ) → k < 2 → Has t l k
    bitmask_has k h = has_of 2 _ m_said.0 k h

    pub bitmask_tells : (s : List ℕ) (v : ℕ) → s ≡ field 1 fs → v ≡ number_or s
        → Tells t l (record { kind = 77; level = 0; typed = Byte; offset = 0; mask = 0; shift = 0; value = v; ascii = false })
    bitmask_tells s v is e = record {
      said = item (bitmask (given (field 1 fs)));
      form_is = m_said.1;
      kind = refl;
      says =
          (rw is at e) ∙ or-missing (field 1 fs) (and_right (eqb (length fs) 2) (optional_up_to 255 (field 1 fs)) m_said.0);
    }

  -- no other kind
  pub last_kind : among 84 83 75 (read_as l.kind) ≡ false → eqb l.kind 81 ≡ false → (l.kind ≡ 71 → ⊥) → (l.kind ≡ 82 → ⊥)
      → (l.kind ≡ 65 → ⊥)
      → l.kind ≡ 77
  last_kind other q g r a = go (form fs) refl good.formed
    where
      of_record : (x : Record) → read_as l.kind ≡ letter x → l.kind ≡ 77
      of_record (param y) e =
          absurd
          (let k : l.kind ≡ 81 = read_other l.kind 81 (λ z. omega arith) e in
          let z : true ≡ false = sym (eq-eqb l.kind 81 k) ∙ q in
          let w : ◌≡◌ {A = ℕ} 0 1 = cc in
          omega arith)
      of_record (group y) e = absurd (g (read_other l.kind 71 (λ z. omega arith) e))
      of_record (item (variant y)) e = absurd (r (read_other l.kind 82 (λ z. omega arith) e))
      of_record (item (array n y)) e = absurd (a (read_other l.kind 65 (λ z. omega arith) e))
      of_record (item (bit_flag m y)) e = absurd (let z : true ≡ false = rw e at other in let w : ◌≡◌ {A = ℕ} 0 1 = cc in omega arith)
      of_record (item (bit_field y)) e = absurd (let z : true ≡ false = rw e at other in let w : ◌≡◌ {A = ℕ} 0 1 = cc in omega arith)
      of_record (item (const v y)) e = absurd (let z : true ≡ false = rw e at other in let w : ◌≡◌ {A = ℕ} 0 1 = cc in omega arith)
      of_record (item (bitmask y)) e = read_other l.kind 77 (λ z. omega arith) e

      go : (x : Option Record) → form fs ≡ x → is_some x ≡ true → l.kind ≡ 77
      go None e h = absurd (let z : ◌≡◌ {A = ℕ} 0 1 = cc in omega arith)
      go (Some x) e h = of_record x (ap read_as good.kind_is ∙ kind_letter fs x e)

-- ---- a field that names a type
module _ (s : List ℕ) (r : Option ParamType) (is : r ≡ type_of s) where
  pub type_says : known (type_of s) ≡ true → (type : ParamType) → type ≡ unwrap_or r Byte → type_of s ≡ Some type
  type_says h type e = sym is ∙ go r (rw (← is) at h) ∙ ap Some (sym e)
    where
      go : (r : Option ParamType) → known r ≡ true → r ≡ Some (unwrap_or r Byte)
      go (Some x) h = refl
      go None h = absurd (let w : ◌≡◌ {A = ℕ} 0 1 = cc in omega arith)

pub ruleset row_laws = (
  group_has,
  group_tells,
  variant_has,
  variant_tells,
  array_has,
  array_tells,
  bitmask_has,
  bitmask_tells,
)

-- ---- the line at a place
module _ (t : List ℕ) (p : Place) (l : Line) (readable : Readable rules t p) (inside : p.at < length t) (step : Steps t p l) where
  abbrev line_here : Lined t p l
  line_here = lined t p l readable inside step

  pub read_good : Good t l
  read_good = record { marked = step.marked; kind_is = step.kind_is; formed = rw line_here.form_is }

  same_begin : (kind : ℕ) (begin : Begins t p kind) → line_here.says ≡ begin.said
  same_begin kind begin = (same_line p.line _ _ (from t l.next) begin.others (sym line_here.lines ∙ begin.lines)).0

  pub read_rest : (kind : ℕ) (x : Bool) → Begins t p kind → x ≡ among 84 83 75 kind → x ≡ false → among 84 83 75 (read_as l.kind) ≡ false
  read_rest kind x begin is_x e =
      ap (among 84 83 75) (line_here.kind_is ∙ ap letter (same_begin kind begin) ∙ sym begin.kind) ∙ sym is_x ∙ e

  pub read_no-param : (kind : ℕ) → Begins t p kind → (kind ≡ 81 → ⊥) → eqb l.kind 81 ≡ false
  read_no-param kind begin other =
      ne_eqb l.kind 81
      (λ z. other (begin.kind ∙ ap letter (sym (same_begin kind begin)) ∙ sym line_here.kind_is ∙ ap read_as z))

  pub read_is : (r : Row) → Tells t l r → IsRead t p (record { row = r; next = l.next })
  read_is r h =
      let same : line_here.says ≡ h.said = let z : Some line_here.says ≡ Some h.said = sym line_here.form_is ∙ h.form_is in cc in
      record {
        said = h.said;
        lines = line_here.lines ∙ ap (λ (x : Record). record { line = p.line; says = x } ∷ from t l.next) same;
        kind = h.kind;
        says = h.says;
        next = line_here.next;
        count = step.passes.count;
        on = step.passes.on;
      }

pub read_numbers : (t : List ℕ) (p q : Place) (r : Row) → Readable rules t p → p.at < length t → Passes t p q → Numbers t p r
    → IsRead t p (record { row = r; next = q })
read_numbers t p q r readable inside pass h =
    let f : Follows t p q = follows_at t p q readable inside pass in
    let rest : h.others ≡ from t q = (same_line p.line h.said f.said h.others (from t q) (sym h.lines ∙ f.lines)).1 in
    record {
      said = h.said;
      lines = h.lines ∙ ap (λ (is : List Item). record { line = p.line; says = h.said } ∷ is) rest;
      kind = h.kind;
      says = h.says;
      next = f.readable;
      count = pass.count;
      on = pass.on;
    }

pub read_asked : (t : List ℕ) (p : Place) (kind : ℕ) → Begins t p kind → kind ≡ 81 → Begins t p 81
read_asked t p kind begin e = rw e at begin

pub read_numbered : (kind : ℕ) (x : Bool) → x ≡ among 84 83 75 kind → x ≡ true → among 84 83 75 kind ≡ true
read_numbered kind x is_x e = sym is_x ∙ e

pub ruleset read_laws = (read_good, read_rest, read_no-param, read_is, read_numbers, read_asked, read_numbered)
