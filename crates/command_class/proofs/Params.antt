-- Laws on reading a Q line by the tabs between its fields. Assumes nothing.
use mathlib.Core.Path.{◌≡◌, refl, sym, ap, ◌∙◌}
use mathlib.Core.Bool.{true, false}
use mathlib.Core.List.{List, [], ◌∷◌}
use Prim.Native.Nat.{ℕ, ◌+◌, ◌-◌, ◌≤◌, ◌<◌}
use native.Mathlib.Omega.{arith}
use lib.Dec.{eqb}
use lib.ListN.{length, take, drop}
use borrow.Author.Tests.{eqb-true, leb-true}
use Rattle.text.specs.Text.{field, worth, decimal, value, optional_up_to}
use Rattle.text.specs.Place.{kind_of, Passes}
use Rattle.text.specs.Fields.{fields_at, FieldEnds, LineEnds}
use Rattle.text.specs.Records.{Readable}
use Rattle.text.specs.declared.Place.{Place}
use Rattle.text.proofs.Fields.{field_room, short-ended, Stands, stands_many, stands-field, stands_is, stands_next, ended_passes}
use Rattle.text.proofs.Tests.{and_left, and_right, value_of, digit-long}
use Rattle.command_text.specs.Form.{param, type_of, known, param_words, param_condition, param_fields, param_form, param_of, form}
use Rattle.command_text.specs.Rules.{rules}
use Rattle.command_text.specs.declared.ParamType.{ParamType}
use Rattle.command_text.proofs.Laws.{param-level, param_type_lem}
use Rattle.command_class.specs.Find.{number_or, IsRead, IsCondition, Begins}
use Rattle.command_class.specs.declared.Condition.{Condition}
use Rattle.command_class.proofs.Finding.{read_other}
use Rattle.command_class.proofs.Rows.{or-missing, param_good, read_numbers}
use Rattle.command_class.proofs.Numbering.{fs, formed, kind_is, behind_kind, said_as}
use Rattle.std.specs.Prelude.{Some}

-- ---- the last two fields
module _ (t : List ℕ) (a : ℕ) (two : length (fields_at t a) ≡ 2) where
  pub condition_two : 2 ≤ length (fields_at t a)
  condition_two = omega arith

  module _ (e : ℕ) (ends : FieldEnds t a e) where
    pub condition_last : length (fields_at t (e + 1)) ≡ 1
    condition_last = ap length ends.next ∙ go (fields_at t a) two
      where
        go : (gs : List (List ℕ)) → length gs ≡ 2 → length (drop 1 gs) ≡ 1
        go [] h = absurd (omega arith)
        go (g ∷ gs) h = omega arith

    pub condition_is : (d o m : ℕ) → LineEnds t (e + 1) d → o ≡ number_or (take (e - a) (drop a t))
        → m ≡ number_or (take (d - (e + 1)) (drop (e + 1) t)) → IsCondition t a (record { offset = o; mask = m; end = d })
    condition_is d o m last o_is m_is = record {
      offset = o_is ∙ ap number_or ends.is;
      mask = m_is ∙ ap number_or (last.is ∙ ap (field 0) ends.next ∙ go (fields_at t a));
      end = last.line ∙ ends.line;
      inside = last.inside;
    }
      where
        go : (gs : List (List ℕ)) → field 0 (drop 1 gs) ≡ field 1 gs
        go [] = refl
        go (g ∷ gs) = refl

pub ruleset condition_laws = (condition_two, condition_last, condition_is)

-- ---- the line
module _ (t : List ℕ) (p : Place) (readable : Readable rules t p) (inside : p.at < length t) (begin : Begins t p 81) where
  abbrev gs : List (List ℕ)
  gs = fs t p readable inside 81 begin

  asked : (param_form gs ≡ true) × ((type : ParamType) × (type_of (field 2 gs) ≡ Some type) × (form gs ≡ Some (param (param_of gs type))))
  asked =
      let k : kind_of gs ≡ 81 = read_other (kind_of gs) 81 (λ z. omega arith) (kind_is t p readable inside 81 begin) in
      param_good gs (param_form gs) (type_of (field 2 gs)) (rw k) (formed t p readable inside 81 begin)

  six : length gs ≡ 6
  six = eqb-true (length gs) 6 (and_left (eqb (length gs) 6) (param_fields gs) asked.0)

  asked-fields : param_fields gs ≡ true
  asked-fields = and_right (eqb (length gs) 6) (param_fields gs) asked.0

  stands-level : Stands t p gs 1 (p.at + 2)
  stands-level = behind_kind t p readable inside 81 begin (λ z. omega arith) (omega (arith, six))

  level-ends : FieldEnds t (p.at + 2) (p.at + 3)
  level-ends =
      let s : length (field 0 (fields_at t (p.at + 2))) ≡ 1 =
      ap length (stands_is t p gs 1 (p.at + 2) stands-level) ∙ digit-long (field 1 gs) (and_left (decimal (field 1 gs)) _ (param-level gs asked-fields))
      (omega (arith, leb-true (worth 0 (field 1 gs)) 1 (and_right (decimal (field 1 gs)) _ (param-level gs asked-fields)))) in
      let z : p.at + 2 + 1 ≡ p.at + 3 = omega arith in
      rw z at (short-ended t (p.at + 2) (omega (arith, six, stands_many t p gs 1 (p.at + 2) stands-level)) s)

  stands_type : Stands t p gs 2 (p.at + 4)
  stands_type = let z : p.at + 3 + 1 ≡ p.at + 4 = omega arith in rw z at (stands_next t p gs 1 (p.at + 2) stands-level (p.at + 3) level-ends)

  pub param_two : 2 ≤ length (fields_at t (p.at + 4))
  param_two = omega (arith, six, stands_many t p gs 2 (p.at + 4) stands_type)

  pub param_room : p.at + 4 ≤ length t
  param_room = field_room t (p.at + 4) param_two

  module _ (e : ℕ) (typed : FieldEnds t (p.at + 4) e) where
    type_is : take (e - (p.at + 4)) (drop (p.at + 4) t) ≡ field 2 gs
    type_is = typed.is ∙ stands_is t p gs 2 (p.at + 4) stands_type

    stands-name : Stands t p gs 3 (e + 1)
    stands-name = stands_next t p gs 2 (p.at + 4) stands_type e typed

    pub param-typed : known (type_of (take (e - (p.at + 4)) (drop (p.at + 4) t))) ≡ true
    param-typed = ap (λ (l : List ℕ). known (type_of l)) type_is ∙ param_type_lem gs asked-fields

    pub param-named : 2 ≤ length (fields_at t (e + 1))
    param-named = omega (arith, six, stands_many t p gs 3 (e + 1) stands-name)

    module _ (n : ℕ) (named : FieldEnds t (e + 1) n) where
      stands_condition : Stands t p gs 4 (n + 1)
      stands_condition = stands_next t p gs 3 (e + 1) stands-name n named

      pub param_conditioned : length (fields_at t (n + 1)) ≡ 2
      param_conditioned = omega (arith, six, stands_many t p gs 4 (n + 1) stands_condition)

      module _ (c : Condition) (condition : IsCondition t (n + 1) c) where
        -- the line ends where its last field does
        passes : Passes t p (record { at = c.end + 1; line = p.line + 1 })
        passes = ended_passes t p c.end readable.inn (condition.end ∙ stands_condition.line) condition.inside

        pub param_read : (v : ℕ) (type : ParamType) → v ≡ value 1 (take (p.at + 3 - (p.at + 2)) (drop (p.at + 2) t))
            → type_of (take (e - (p.at + 4)) (drop (p.at + 4) t)) ≡ Some type → IsRead t p (record {
              row = record { kind = 81; level = v; typed = type; offset = c.offset; mask = c.mask; shift = 0; value = 0; ascii = false };
              next = record { at = c.end + 1; line = p.line + 1 };
            })
        param_read v type v-is type_says =
            let w : param_condition gs ≡ true = and_right (param_words gs) (param_condition gs) asked-fields in
            let same : asked.1.0 ≡ type = let z : Some asked.1.0 ≡ Some type = sym asked.1.1 ∙ (rw type_is at type_says) in cc in
            read_numbers t p _ _ readable inside passes
            (said_as t p readable inside 81 begin (param (param_of gs type)) _ (asked.1.2 ∙ ap (λ (x : ParamType). Some (param (param_of gs x))) same)
            refl refl (
              v-is ∙ ap (value 1) (level-ends.is ∙ stands_is t p gs 1 (p.at + 2) stands-level) ∙ value_of 1 (field 1 gs) (param-level gs asked-fields),
              refl,
              condition.offset ∙ ap number_or (stands-field t p gs 4 (n + 1) stands_condition 0)
                  ∙ or-missing (field 4 gs) (and_left (optional_up_to 255 (field 4 gs)) (optional_up_to 255 (field 5 gs)) w),
              condition.mask ∙ ap number_or (stands-field t p gs 4 (n + 1) stands_condition 1)
                  ∙ or-missing (field 5 gs) (and_right (optional_up_to 255 (field 4 gs)) (optional_up_to 255 (field 5 gs)) w),
            ))

pub ruleset param_laws = (param_two, param_room, param-typed, param-named, param_conditioned, param_read)
