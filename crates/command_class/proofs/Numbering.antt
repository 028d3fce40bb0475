-- Laws on the numbers of a T, S or K line, which stand behind its kind, each ended by a tab. Assumes nothing.
use mathlib.Core.Path.{◌≡◌, refl, sym, ap, ◌∙◌}
use mathlib.Core.Bool.{Bool, true, false, cond, ◌||◌}
use mathlib.Core.List.{List, [], ◌∷◌}
use Prim.Native.Nat.{ℕ, ◌+◌, ◌-◌, ◌≤◌, ◌<◌}
use native.Mathlib.Omega.{arith}
use lib.Dec.{eqb}
use lib.ListN.{length, take, drop}
use borrow.Author.Tests.{eqb-true, ne_eqb}
use Rattle.text.specs.Text.{field, worth, value, optional_value, up_to, name}
use Rattle.text.specs.Place.{kind_of}
use Rattle.text.specs.Fields.{fields_of, fields_at, FieldEnds, LineEnds}
use Rattle.text.specs.Records.{is_some, Readable}
use Rattle.text.specs.declared.Place.{Place}
use Rattle.text.proofs.Fields.{field_room, Stands, stands-second, stands_many, stands_is, stands_next}
use Rattle.text.proofs.Tests.{and_left, and_right, value_of, optional-value_of}
use Rattle.text.proofs.Reading.{Opened, opened}
use Rattle.command_text.specs.Form.{Record, item, bit_flag, bit_field, const, named_form, bits_fields, bits_form, bits_of}
use Rattle.command_text.specs.Form.{said, form}
use Rattle.command_text.specs.Rules.{rules}
use Rattle.command_text.specs.declared.ParamType.TheVariants.{Byte}
use Rattle.command_text.proofs.Laws.{bits_shift}
use Rattle.command_class.specs.Definition.{letter, read_as, numbered, const_of, const_in}
use Rattle.command_class.specs.Find.{from, among, Says, Numbers, Begins}
use Rattle.command_class.specs.declared.Row.{Row}
use Rattle.command_class.proofs.Saying.{kind_letter}
use Rattle.command_class.proofs.Finding.{same_line, read_other}
use Rattle.command_class.proofs.Rows.{said_good}
use Rattle.command_class.proofs.Beginning.{const_alone}
use Rattle.std.specs.Prelude.{Some}

-- ---- what such a line says
module _ (fs : List (List ℕ)) (formed : is_some (form fs) ≡ true) where
  flag-said : kind_of fs ≡ 84 → (named_form fs ≡ true) × (form fs ≡ Some (item (bit_flag (worth 0 (field 1 fs)) (field 2 fs))))
  flag-said is = said_good fs (named_form fs) _ (rw is) formed

  const_said : kind_of fs ≡ 75 → (named_form fs ≡ true) × (form fs ≡ Some (item (const (worth 0 (field 1 fs)) (field 2 fs))))
  const_said is = said_good fs (named_form fs) _ (rw is) formed

  -- S, and U, which is read as one
  field-said : read_as (kind_of fs) ≡ 83 → (bits_form fs ≡ true) × (form fs ≡ Some (item (bit_field (bits_of fs))))
  field-said is = go (eqb (kind_of fs) 85) refl is
    where
      go : (b : Bool) → eqb (kind_of fs) 85 ≡ b → cond b 83 (kind_of fs) ≡ 83 → (bits_form fs ≡ true)
          × (form fs ≡ Some (item (bit_field (bits_of fs))))
      go true e q = said_good fs (bits_form fs) _ (rw (eqb-true (kind_of fs) 85 e)) formed
      go false e q = said_good fs (bits_form fs) _ (rw q) formed

  named_value : named_form fs ≡ true → value 255 (field 1 fs) ≡ worth 0 (field 1 fs)
  named_value e = value_of 255 (field 1 fs) (and_left (up_to 255 (field 1 fs)) (name (field 2 fs)) (and_right (eqb (length fs) 3) _ e))

  named-long : named_form fs ≡ true → length fs ≡ 3
  named-long e = eqb-true (length fs) 3 (and_left (eqb (length fs) 3) _ e)

  bits_long : bits_form fs ≡ true → length fs ≡ 4
  bits_long e = eqb-true (length fs) 4 (and_left (eqb (length fs) 4) _ e)

  bits_fields_lem : bits_form fs ≡ true → bits_fields fs ≡ true
  bits_fields_lem e = and_right (eqb (length fs) 4) (bits_fields fs) e

module _ (t : List ℕ) (p : Place) (readable : Readable rules t p) (inside : p.at < length t) (kind : ℕ) (begin : Begins t p kind) where
  abbrev pub here : Opened rules t p
  here = opened rules t p readable inside

  abbrev pub fs : List (List ℕ)
  fs = here.cells

  pub formed : is_some (form fs) ≡ true
  formed = rw here.form_is

  said_is : here.said ≡ begin.said
  said_is = (same_line p.line _ _ _ begin.others (sym (ap (numbered p.line) here.rest_is) ∙ begin.lines)).0

  pub kind_is : read_as (kind_of fs) ≡ kind
  kind_is = kind_letter fs here.said here.form_is ∙ ap letter said_is ∙ sym begin.kind

  some_kind : (kind ≡ 0 → ⊥) → kind_of fs ≡ 0 → ⊥
  some_kind h e = h (sym kind_is ∙ ap read_as e)

  -- behind the kind
  pub behind_kind : (kind ≡ 0 → ⊥) → 2 ≤ length fs → Stands t p fs 1 (p.at + 2)
  behind_kind h long = stands-second t p fs (ap fields_of here.first_is) (some_kind h) long

  is_flag_lem : kind ≡ 84 → kind_of fs ≡ 84
  is_flag_lem e = read_other (kind_of fs) 84 (λ z. omega arith) (kind_is ∙ e)

  is_const_lem : kind ≡ 75 → kind_of fs ≡ 75
  is_const_lem e = read_other (kind_of fs) 75 (λ z. omega arith) (kind_is ∙ e)

  flag-long : kind ≡ 84 → length fs ≡ 3
  flag-long e = named-long fs formed (flag-said fs formed (is_flag_lem e)).0

  const_long : kind ≡ 75 → length fs ≡ 3
  const_long e = named-long fs formed (const_said fs formed (is_const_lem e)).0

  field-long : kind ≡ 83 → length fs ≡ 4
  field-long e = bits_long fs formed (field-said fs formed (kind_is ∙ e)).0

  -- T, S or K
  one_of : (a b c : Bool) → eqb kind 84 ≡ a → eqb kind 83 ≡ b → eqb kind 75 ≡ c → (a || (b || c)) ≡ true → 3 ≤ length fs
  one_of true b c ea eb ec e = omega (arith, flag-long (eqb-true kind 84 ea))
  one_of false true c ea eb ec e = omega (arith, field-long (eqb-true kind 83 eb))
  one_of false false true ea eb ec e = omega (arith, const_long (eqb-true kind 75 ec))
  one_of false false false ea eb ec e = absurd (let z : ◌≡◌ {A = ℕ} 0 1 = cc in omega arith)

  some_one : among 84 83 75 kind ≡ true → kind ≡ 0 → ⊥
  some_one e z = let y : false ≡ true = rw z at e in let w : ◌≡◌ {A = ℕ} 0 1 = cc in omega arith

  pub said_as : (x : Record) (r : Row) → form fs ≡ Some x → kind ≡ letter x → r.kind ≡ kind → Says x r → Numbers t p r
  said_as x r is l k s =
      let same : here.said ≡ x = let z : Some here.said ≡ Some x = sym here.form_is ∙ is in cc in
      record {
        said = x;
        others = begin.others;
        lines = begin.lines ∙ ap (λ (y : Record). record { line = p.line; says = y } ∷ begin.others) (sym said_is ∙ same);
        kind = k ∙ l;
        says = s;
      }

  -- T, S or K: the first number
  module _ (one : among 84 83 75 kind ≡ true) where
    three : 3 ≤ length fs
    three = one_of (eqb kind 84) (eqb kind 83) (eqb kind 75) refl refl refl one

    stands-number : Stands t p fs 1 (p.at + 2)
    stands-number = behind_kind (some_one one) (omega (arith, three))

    pub numbered_two : 2 ≤ length (fields_at t (p.at + 2))
    numbered_two = omega (arith, three, stands_many t p fs 1 (p.at + 2) stands-number)

    pub numbered-room : p.at + 2 ≤ length t
    numbered-room = field_room t (p.at + 2) numbered_two

    module _ (e : ℕ) (ends : FieldEnds t (p.at + 2) e) where
      module _ (n : ℕ) (n_is : n ≡ value 255 (take (e - (p.at + 2)) (drop (p.at + 2) t))) where
        number_is : n ≡ value 255 (field 1 fs)
        number_is = n_is ∙ ap (value 255) (ends.is ∙ stands_is t p fs 1 (p.at + 2) stands-number)

        pub numbered_const : kind ≡ 75 → Numbers t p (record {
          kind = kind;
          level = 0;
          typed = Byte;
          offset = 0;
          mask = 0;
          shift = 0;
          value = n;
          ascii = false;
        })
        numbered_const is =
            let s = const_said fs formed (is_const_lem is) in
            said_as (item (const (worth 0 (field 1 fs)) (field 2 fs))) _ s.1 is refl (number_is ∙ named_value fs formed s.0)

        pub numbered-flag : kind ≡ 84
            → Numbers t p (record { kind = kind; level = 0; typed = Byte; offset = 0; mask = n; shift = 0; value = 0; ascii = false })
        numbered-flag is =
            let s = flag-said fs formed (is_flag_lem is) in
            said_as (item (bit_flag (worth 0 (field 1 fs)) (field 2 fs))) _ s.1 is refl (number_is ∙ named_value fs formed s.0)

      -- S
      module _ (no_IsConst : kind ≡ 75 → ⊥) (no_flag : kind ≡ 84 → ⊥) where
        is_field : kind ≡ 83
        is_field = go (eqb kind 83) refl (rw (ne_eqb kind 84 no_flag, ne_eqb kind 75 no_IsConst) at one)
          where
            go : (b : Bool) → eqb kind 83 ≡ b → (b || false) ≡ true → kind ≡ 83
            go true q y = eqb-true kind 83 q
            go false q y = absurd (let z : ◌≡◌ {A = ℕ} 0 1 = cc in omega arith)

        stands-shift : Stands t p fs 2 (e + 1)
        stands-shift = stands_next t p fs 1 (p.at + 2) stands-number e ends

        pub numbered_more : 2 ≤ length (fields_at t (e + 1))
        numbered_more = omega (arith, field-long is_field, stands_many t p fs 2 (e + 1) stands-shift)

        pub numbered-field : (n d s : ℕ) → n ≡ value 255 (take (e - (p.at + 2)) (drop (p.at + 2) t)) → FieldEnds t (e + 1) d
            → s ≡ optional_value 255 (take (d - (e + 1)) (drop (e + 1) t))
            → Numbers t p (record { kind = kind; level = 0; typed = Byte; offset = 0; mask = n; shift = s; value = 0; ascii = false })
        numbered-field n d s n_is shifts s_is =
            let w = field-said fs formed (kind_is ∙ is_field) in
            let f : bits_fields fs ≡ true = bits_fields_lem fs formed w.0 in
            said_as (item (bit_field (bits_of fs))) _ w.1 is_field refl (
              number_is n n_is ∙ value_of 255 (field 1 fs) (and_left (up_to 255 (field 1 fs)) _ f),
              s_is ∙ ap (optional_value 255) (shifts.is ∙ stands_is t p fs 2 (e + 1) stands-shift)
                  ∙ optional-value_of 255 (field 2 fs) (bits_shift fs f),
            )

  -- the name of a K
  module _ (is : kind ≡ 75) where
    long_const : length fs ≡ 3
    long_const = const_long is

    stands-value : Stands t p fs 1 (p.at + 2)
    stands-value = behind_kind (λ z. omega (arith, is)) (omega (arith, long_const))

    pub const_two : 2 ≤ length (fields_at t (p.at + 2))
    const_two = omega (arith, long_const, stands_many t p fs 1 (p.at + 2) stands-value)

    pub const_room : p.at + 2 ≤ length t
    const_room = field_room t (p.at + 2) const_two

    module _ (e : ℕ) (ends : FieldEnds t (p.at + 2) e) where
      stands-name : Stands t p fs 2 (e + 1)
      stands-name = stands_next t p fs 1 (p.at + 2) stands-value e ends

      pub const_last : length (fields_at t (e + 1)) ≡ 1
      const_last = omega (arith, long_const, stands_many t p fs 2 (e + 1) stands-name)

      pub const_named : (d : ℕ) → LineEnds t (e + 1) d → take (d - (e + 1)) (drop (e + 1) t) ≡ const_in (from t p)
      const_named d last =
          let s = const_said fs formed (is_const_lem is) in
          let same : here.said ≡ item (const (worth 0 (field 1 fs)) (field 2 fs)) =
          (let z : Some here.said ≡ Some (item (const (worth 0 (field 1 fs)) (field 2 fs))) = sym here.form_is ∙ s.1 in cc) in
          last.is ∙ stands_is t p fs 2 (e + 1) stands-name ∙ sym (ap const_in begin.lines ∙ ap const_of (sym said_is ∙ same))

  pub const_unnamed : (kind ≡ 75 → ⊥) → [] ≡ const_in (from t p)
  const_unnamed h = rw (begin.lines, (const_alone begin.said (λ z. h (begin.kind ∙ z))).1) refl

pub ruleset name_laws = (const_two, const_room, const_last, const_named, const_unnamed)

pub ruleset numbered_laws = (numbered_two, numbered-room, numbered_const, numbered-flag, numbered_more, numbered-field)
