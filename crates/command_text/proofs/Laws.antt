-- Laws of the command text: how a line is read. Assumes nothing.
use mathlib.Core.Path.{◌≡◌, refl, sym, ap, ◌∙◌}
use mathlib.Core.Bool.{Bool, true, false, ◌&&◌}
use mathlib.Core.List.{List}
use Prim.Native.Nat.{ℕ}
use native.Mathlib.Omega.{arith}
use lib.Dec.{eqb}
use lib.ListN.{length}
use borrow.Author.Tests.{ne_eqb}
use Rattle.text.specs.Text.{field, same, up_to, optional_up_to, optional_value, name}
use Rattle.text.specs.Text as text
use Rattle.text.specs.Place.{kind_of, cells}
use Rattle.text.specs.declared.Line.{Line}
use Rattle.text.proofs.Laws.{cells-length}
use Rattle.text.proofs.Tests.{and_left, and_right, count_of, value_of, optional-value_of}
use Rattle.command_kept.specs.declared.Form.{Form}
use Rattle.command_kept.specs.declared.Form.TheVariants.{Param, Group, Item}
use Rattle.command_text.specs.Form.{Record, group, item, variant, bit_field, type_name, type_among, type_of, known}
use Rattle.command_text.specs.Form.{param_words, param_condition, param_fields}
use Rattle.command_text.specs.Form.{group_fields, group_form, variant_fields, variant_form, array_form, named_form, bits_fields, bits_form, bitmask_form}
use Rattle.command_text.specs.Form.{group_of, size_of, bits_of, of_type, said, param_said, form}
use Rattle.command_text.specs.Shape.{late_types, last_types, tagged, shape}
use Rattle.command_text.specs.declared.ParamType.{ParamType}
use Rattle.command_text.specs.declared.ParamType.TheVariants as kind
use Rattle.std.specs.Prelude.{Option, Some, None, is_some}

-- ---- the names of types
module _ (s : List ℕ) (a : Bool) (is-a : a ≡ same s (type_name kind.Variant)) where
  pub type_variant : a ≡ true → Some kind.Variant ≡ type_among last_types s
  type_variant e = rw (sym is-a ∙ e)

  module _ (b : Bool) (is_b : b ≡ same s (type_name kind.Bitmask)) where
    pub type_bitmask : a ≡ false → b ≡ true → Some kind.Bitmask ≡ type_among last_types s
    type_bitmask ea e = rw (sym is-a ∙ ea, sym is_b ∙ e)

    module _ (c : Bool) (is_c : c ≡ same s (type_name kind.MultiArray)) where
      pub type_multi_array : a ≡ false → b ≡ false → c ≡ true → Some kind.MultiArray ≡ type_among last_types s
      type_multi_array ea eb e = rw (sym is-a ∙ ea, sym is_b ∙ eb, sym is_c ∙ e)

      pub type_none : a ≡ false → b ≡ false → c ≡ false → None ≡ type_among last_types s
      type_none ea eb ec = rw (sym is-a ∙ ea, sym is_b ∙ eb, sym is_c ∙ ec)

module _ (s : List ℕ) (a : Bool) (is-a : a ≡ same s (type_name kind.Word)) where
  pub type_word : a ≡ true → Some kind.Word ≡ type_among late_types s
  type_word e = rw (sym is-a ∙ e)

  module _ (b : Bool) (is_b : b ≡ same s (type_name kind.Bit24)) where
    pub type_bit24 : a ≡ false → b ≡ true → Some kind.Bit24 ≡ type_among late_types s
    type_bit24 ea e = rw (sym is-a ∙ ea, sym is_b ∙ e)

    module _ (c : Bool) (is_c : c ≡ same s (type_name kind.Dword)) where
      pub type_dword : a ≡ false → b ≡ false → c ≡ true → Some kind.Dword ≡ type_among late_types s
      type_dword ea eb e = rw (sym is-a ∙ ea, sym is_b ∙ eb, sym is_c ∙ e)

      module _ (d : Bool) (is-d : d ≡ same s (type_name kind.Array)) where
        pub type_array : a ≡ false → b ≡ false → c ≡ false → d ≡ true → Some kind.Array ≡ type_among late_types s
        type_array ea eb ec e = rw (sym is-a ∙ ea, sym is_b ∙ eb, sym is_c ∙ ec, sym is-d ∙ e)

        pub type_last : (r : Option ParamType) → r ≡ type_among last_types s → a ≡ false → b ≡ false → c ≡ false → d ≡ false
            → r ≡ type_among late_types s
        type_last r is ea eb ec ed = is ∙ rw (sym is-a ∙ ea, sym is_b ∙ eb, sym is_c ∙ ec, sym is-d ∙ ed)

module _ (s : List ℕ) (a : Bool) (is-a : a ≡ same s (type_name kind.Byte)) where
  pub type_byte : a ≡ true → Some kind.Byte ≡ type_of s
  type_byte e = rw (sym is-a ∙ e)

  module _ (b : Bool) (is_b : b ≡ same s (type_name kind.StructByte)) where
    pub type_struct_byte : a ≡ false → b ≡ true → Some kind.StructByte ≡ type_of s
    type_struct_byte ea e = rw (sym is-a ∙ ea, sym is_b ∙ e)

    module _ (c : Bool) (is_c : c ≡ same s (type_name kind.Const)) where
      pub type_const : a ≡ false → b ≡ false → c ≡ true → Some kind.Const ≡ type_of s
      type_const ea eb e = rw (sym is-a ∙ ea, sym is_b ∙ eb, sym is_c ∙ e)

      module _ (d : Bool) (is-d : d ≡ same s (type_name kind.Marker)) where
        pub type_marker : a ≡ false → b ≡ false → c ≡ false → d ≡ true → Some kind.Marker ≡ type_of s
        type_marker ea eb ec e = rw (sym is-a ∙ ea, sym is_b ∙ eb, sym is_c ∙ ec, sym is-d ∙ e)

        pub type_late : (r : Option ParamType) → r ≡ type_among late_types s → a ≡ false → b ≡ false → c ≡ false → d ≡ false → r ≡ type_of s
        type_late r is ea eb ec ed = is ∙ rw (sym is-a ∙ ea, sym is_b ∙ eb, sym is_c ∙ ec, sym is-d ∙ ed)

is_known : (r : Option ParamType) → is_some r ≡ known r
is_known (Some type) = refl
is_known None = refl

module _ (r a : Option ParamType) (says : r ≡ a) where
  pub known_is : (b : Bool) → b ≡ is_some r → b ≡ known a
  known_is b e = rw says at (e ∙ is_known r)

pub of_type_lem : (s f : List ℕ) (r : Bool) → s ≡ f → r ≡ known (type_of s) → r ≡ known (type_of f)
of_type_lem s f r part e = rw part at e

pub ruleset type_laws = (
  type_variant,
  type_bitmask,
  type_multi_array,
  type_none,
  type_word,
  type_bit24,
  type_dword,
  type_array,
  type_last,
  type_byte,
  type_struct_byte,
  type_const,
  type_marker,
  type_late,
  known_is,
)

-- ---- a line of n fields that has a form, or not
module _ (t : List ℕ) (l : Line) (n : ℕ) (fields : Bool) (x : Option Record) where
  pub count_bad : (l.fields ≡ n → ⊥) → None ≡ shape (said (eqb (length (cells t l)) n && fields) x)
  count_bad h = rw (cells-length t l.marks l.fields 0, ne_eqb l.fields n h)

  module _ (b : Bool) (good : b ≡ fields) (h : l.fields ≡ n) where
    decides : (eqb (length (cells t l)) n && fields) ≡ b
    decides = ap (λ (y : Bool). y && fields) (count_of t l n h) ∙ sym good

    pub fields_bad : b ≡ false → None ≡ shape (said (eqb (length (cells t l)) n && fields) x)
    fields_bad e = ap (λ (y : Bool). shape (said y x)) (sym (decides ∙ e))

    fields_good : b ≡ true → (f : Option Form) → f ≡ shape x → f ≡ shape (said (eqb (length (cells t l)) n && fields) x)
    fields_good e f h = h ∙ ap (λ (y : Bool). shape (said y x)) (sym (decides ∙ e))

-- what a line of a form says of its shift, its level and its type
module _ (fs : List (List ℕ)) where
  pub group_shift : group_fields fs ≡ true → up_to 255 (field 4 fs) ≡ true
  group_shift e = and_right (up_to 255 (field 3 fs)) _ (and_right (up_to 255 (field 2 fs)) _ (and_right (name (field 1 fs)) _ e))

  pub variant_shift : variant_fields fs ≡ true → optional_up_to 255 (field 3 fs) ≡ true
  variant_shift e = and_left (optional_up_to 255 (field 3 fs)) (up_to 1 (field 4 fs)) (and_right (up_to 255 (field 2 fs)) _ (and_right (up_to 255 (field 1 fs)) _ e))

  pub bits_shift : bits_fields fs ≡ true → optional_up_to 255 (field 2 fs) ≡ true
  bits_shift e = and_left (optional_up_to 255 (field 2 fs)) (name (field 3 fs)) (and_right (up_to 255 (field 1 fs)) _ e)

  pub param-level : param_fields fs ≡ true → up_to 1 (field 1 fs) ≡ true
  param-level e = and_left (up_to 1 (field 1 fs)) (known (type_of (field 2 fs)) && name (field 3 fs)) (and_left (param_words fs) (param_condition fs) e)

  pub param_type_lem : param_fields fs ≡ true → known (type_of (field 2 fs)) ≡ true
  param_type_lem e = and_left (known (type_of (field 2 fs))) (name (field 3 fs)) (and_right (up_to 1 (field 1 fs)) _ (and_left (param_words fs) (param_condition fs) e))

module _ (t : List ℕ) (l : Line) (b : Bool) (v : ℕ) where
  pub group_is : b ≡ group_fields (cells t l) → l.fields ≡ 5 → b ≡ true → v ≡ text.value 255 (field 4 (cells t l))
      → Some (Group v) ≡ shape (said (group_form (cells t l)) (Some (group (group_of (cells t l)))))
  group_is good h e at-v =
      let u : up_to 255 (field 4 (cells t l)) ≡ true = group_shift (cells t l) (sym good ∙ e) in
      fields_good t l 5 (group_fields (cells t l)) (Some (group (group_of (cells t l)))) b good h e (Some (Group v))
      (ap (λ n. Some (Group n)) (at-v ∙ value_of 255 (field 4 (cells t l)) u))

  pub variant_is : b ≡ variant_fields (cells t l) → l.fields ≡ 5 → b ≡ true → v ≡ optional_value 255 (field 3 (cells t l))
      → Some (Item v) ≡ shape (said (variant_form (cells t l)) (Some (item (variant (size_of (cells t l))))))
  variant_is good h e at-v =
      let u : optional_up_to 255 (field 3 (cells t l)) ≡ true = variant_shift (cells t l) (sym good ∙ e) in
      fields_good t l 5 (variant_fields (cells t l)) (Some (item (variant (size_of (cells t l))))) b good h e (Some (Item v))
      (ap (λ n. Some (Item n)) (at-v ∙ optional-value_of 255 (field 3 (cells t l)) u))

  pub bits_is : b ≡ bits_fields (cells t l) → l.fields ≡ 4 → b ≡ true → v ≡ optional_value 255 (field 2 (cells t l))
      → Some (Item v) ≡ shape (said (bits_form (cells t l)) (Some (item (bit_field (bits_of (cells t l))))))
  bits_is good h e at-v =
      let u : optional_up_to 255 (field 2 (cells t l)) ≡ true = bits_shift (cells t l) (sym good ∙ e) in
      fields_good t l 4 (bits_fields (cells t l)) (Some (item (bit_field (bits_of (cells t l))))) b good h e (Some (Item v))
      (ap (λ n. Some (Item n)) (at-v ∙ optional-value_of 255 (field 2 (cells t l)) u))

  pub param_is : b ≡ param_fields (cells t l) → l.fields ≡ 6 → b ≡ true → v ≡ text.value 1 (field 1 (cells t l))
      → Some (Param v) ≡ shape (param_said (cells t l))
  param_is good h e at-v =
      let u : up_to 1 (field 1 (cells t l)) ≡ true = param-level (cells t l) (sym good ∙ e) in
      let k : known (type_of (field 2 (cells t l))) ≡ true = param_type_lem (cells t l) (sym good ∙ e) in
      fields_good t l 6 (param_fields (cells t l)) (of_type (cells t l) (type_of (field 2 (cells t l)))) b good h e (Some (Param v))
      (ap (λ n. Some (Param n)) (at-v ∙ value_of 1 (field 1 (cells t l)) u) ∙ go (type_of (field 2 (cells t l))) k)
    where
      go : (y : Option ParamType) → known y ≡ true → Some (Param (text.worth 0 (field 1 (cells t l)))) ≡ shape (of_type (cells t l) y)
      go (Some type) q = refl
      go None q = absurd (let z : ◌≡◌ {A = ℕ} 0 1 = cc in omega arith)

pub ruleset read_laws = (count_bad, fields_bad, group_is, variant_is, bits_is, param_is)

-- ---- by the kind
module _ (fs : List (List ℕ)) (k : ℕ) (kind : k ≡ kind_of fs) where
  item-shape : (b : Bool) (r : Option Form) (x : Record) → Some (Item 0) ≡ shape (Some x) → r ≡ tagged b (Item 0) → r ≡ shape (said b (Some x))
  item-shape true r x z e = e ∙ z
  item-shape false r x z e = e

  module _ (r : Option Form) where
    pub kind_param : k ≡ 81 → r ≡ shape (param_said fs) → r ≡ shape (form fs)
    kind_param q h = rw (← kind, q) h

    pub kind_group : k ≡ 71 → r ≡ shape (said (group_form fs) (Some (group (group_of fs)))) → r ≡ shape (form fs)
    kind_group q h = rw (← kind, q) h

    pub kind_variant : k ≡ 82 → r ≡ shape (said (variant_form fs) (Some (item (variant (size_of fs))))) → r ≡ shape (form fs)
    kind_variant q h = rw (← kind, q) h

    pub kind_bit-field : k ≡ 83 → r ≡ shape (said (bits_form fs) (Some (item (bit_field (bits_of fs))))) → r ≡ shape (form fs)
    kind_bit-field q h = rw (← kind, q) h

    pub kind_field_enum : k ≡ 85 → r ≡ shape (said (bits_form fs) (Some (item (bit_field (bits_of fs))))) → r ≡ shape (form fs)
    kind_field_enum q h = rw (← kind, q) h

    module _ (b : Bool) (is : r ≡ tagged b (Item 0)) where
      pub kind_array : k ≡ 65 → b ≡ array_form fs → r ≡ shape (form fs)
      kind_array q e = rw (← kind, q, ← e) (item-shape b r _ refl is)

      pub kind_bit-flag : k ≡ 84 → b ≡ named_form fs → r ≡ shape (form fs)
      kind_bit-flag q e = rw (← kind, q, ← e) (item-shape b r _ refl is)

      pub kind_const : k ≡ 75 → b ≡ named_form fs → r ≡ shape (form fs)
      kind_const q e = rw (← kind, q, ← e) (item-shape b r _ refl is)

      pub kind_bitmask : k ≡ 77 → b ≡ bitmask_form fs → r ≡ shape (form fs)
      kind_bitmask q e = rw (← kind, q, ← e) (item-shape b r _ refl is)

  pub kind_none : (k ≡ 81 → ⊥) → (k ≡ 71 → ⊥) → (k ≡ 82 → ⊥) → (k ≡ 65 → ⊥) → (k ≡ 84 → ⊥) → (k ≡ 83 → ⊥)
      → (k ≡ 85 → ⊥) → (k ≡ 75 → ⊥) → (k ≡ 77 → ⊥) → None ≡ shape (form fs)
  kind_none q g r a t s u c m =
      rw (← kind, ne_eqb _ _ q, ne_eqb _ _ g, ne_eqb _ _ r, ne_eqb _ _ a, ne_eqb _ _ t, ne_eqb _ _ s, ne_eqb _ _ u, ne_eqb _ _ c, ne_eqb _ _ m)

pub ruleset kind_laws = (kind_param, kind_group, kind_variant, kind_bit-field, kind_field_enum, kind_array, kind_bit-flag, kind_const, kind_bitmask, kind_none)
