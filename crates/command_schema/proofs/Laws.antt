-- Laws of the small functions: one for each way through the code. Assumes nothing.
use mathlib.Core.Path.{◌≡◌, refl}
use mathlib.Core.Bool.{Bool, true, false, cond}
use mathlib.Core.List.{List}
use Prim.Native.Nat.{ℕ, ◌*◌, ◌≤◌, ◌<◌}
use native.Mathlib.Omega.{arith}
use lib.Dec.{eqb}
use lib.ListN.{length}
use borrow.Author.Tests.{eqb-true, lt-ltb, le-ltb, eq-eqb, ne_eqb}
use Rattle.rows.specs.Rows.{put}
use Rattle.text.specs.declared.Place.{Place}
use Rattle.command_text.specs.declared.ParamType.{ParamType}
use Rattle.command_text.specs.declared.ParamType.TheVariants.{Byte, StructByte, Const, Marker, Word, Bit24, Dword, Array, Variant as Variants, Bitmask}
use Rattle.command_text.specs.declared.ParamType.TheVariants.{MultiArray}
use Rattle.command_class.specs.declared.Row.{Row}
use Rattle.command_lengths.specs.Entries.{given}
use Rattle.command_rules.specs.declared.Rule.TheVariants.{Fixed, Open, Counted}
use Rattle.command_rules.specs.Field.{array_rule, variant_rule, variable_rule, rule_of, array_ascii, variant_ascii, is_const, is_named}
use Rattle.command_schema.specs.Gathered.{with_variant, with_array, with_bitmask, with_bits, noted_row, bitmask_in, array_said, array_in, variant_said}
use Rattle.command_schema.specs.Gathered.{variant_in, length_number}
use Rattle.command_schema.specs.Loaded.{loaded_width, numbers, rule_in, is_member, is_outer, loaded_param}
use Rattle.command_schema.specs.declared.Loaded.{Loaded}
use Rattle.command_schema.specs.declared.items.Gathered.{Gathered}
use Rattle.command_schema.specs.declared.items.ArrayAttrib.{ArrayAttrib}
use Rattle.command_schema.specs.declared.items.Variant.{Variant}
use Rattle.std.specs.Prelude.{Some, None}

-- ---- a loaded row
module _ (l : Loaded) where
  pub rule_fixed : l.length < 256 → Fixed l.length ≡ rule_in l
  rule_fixed h = rw (lt-ltb l.length 256 h)

  pub rule_open : 256 ≤ l.length → l.length ≡ 256 → Open ≡ rule_in l
  rule_open h e = rw (le-ltb l.length 256 h, eq-eqb l.length 256 e)

  pub rule_counted : 256 ≤ l.length → (l.length ≡ 256 → ⊥) → Counted l.paramoffs l.sizemask (record { 0 = l.sizeoffs }) ≡ rule_in l
  rule_counted h e = rw (le-ltb l.length 256 h, ne_eqb l.length 256 e)

module _ (l : Loaded) where
  pub member-not : (l.kind ≡ 81 → ⊥) → false ≡ is_member l
  member-not h = rw (ne_eqb l.kind 81 h)

  pub member-level : l.kind ≡ 81 → eqb l.level 1 ≡ is_member l
  member-level h = rw (eq-eqb l.kind 81 h)

  pub outer-not : (l.kind ≡ 81 → ⊥) → false ≡ is_outer l
  outer-not h = rw (ne_eqb l.kind 81 h)

  pub outer-level : l.kind ≡ 81 → eqb l.level 0 ≡ is_outer l
  outer-level h = rw (eq-eqb l.kind 81 h)

pub row_stored : (d : List ℕ) (i : ℕ) (l : Loaded) (ns d' : List ℕ) → ns ≡ numbers l → d' ≡ put d (i * loaded_width) ns
    → d' ≡ put d (i * loaded_width) (numbers l)
row_stored d i l ns d' en ed = rw en at ed

-- ---- what is gathered
module _ (g : Gathered) (row : Row) where
  pub variant_had : (g.variant.paramoffs ≡ 256 → ⊥) → g ≡ with_variant g row.offset row.mask row.shift row.ascii
  variant_had h = rw (ne_eqb g.variant.paramoffs 256 h)

  pub variant_first : g.variant.paramoffs ≡ 256
      → ◌≡◌ {A = Gathered} (record {
        bitmask = g.bitmask;
        array = g.array;
        variant =
            record { paramoffs = row.offset; sizemask = row.mask; sizeoffs = row.shift; ascii = row.ascii };
        bits = g.bits;
      })
      (with_variant g row.offset row.mask row.shift row.ascii)
  variant_first h = rw (eq-eqb g.variant.paramoffs 256 h)

  pub array_had : (g.array.len ≡ 256 → ⊥) → g ≡ with_array g row.value row.ascii
  array_had h = rw (ne_eqb g.array.len 256 h)

  pub array_first : g.array.len ≡ 256
      → ◌≡◌ {A = Gathered} (record {
        bitmask = g.bitmask;
        array = record { len = row.value; ascii = row.ascii };
        variant = g.variant;
        bits =
            g.bits;
      }) (with_array g row.value row.ascii)
  array_first h = rw (eq-eqb g.array.len 256 h)

  pub bitmask_had : (g.bitmask ≡ 257 → ⊥) → g ≡ with_bitmask g row.value
  bitmask_had h = rw (ne_eqb g.bitmask 257 h)

  pub bitmask_first : g.bitmask ≡ 257
      → ◌≡◌ {A = Gathered} (record { bitmask = row.value; array = g.array; variant = g.variant; bits = g.bits }) (with_bitmask g row.value)
  bitmask_first h = rw (eq-eqb g.bitmask 257 h)

  module _ (x : Gathered) where
    pub note_variant : x ≡ with_variant g row.offset row.mask row.shift row.ascii → row.kind ≡ 82 → x ≡ noted_row g row
    note_variant e h = rw h e

    pub note_array : x ≡ with_array g row.value row.ascii → row.kind ≡ 65 → x ≡ noted_row g row
    note_array e h = rw h e

    pub note_bitmask : x ≡ with_bitmask g row.value → row.kind ≡ 77 → x ≡ noted_row g row
    note_bitmask e h = rw h e

    pub note_flag : x ≡ with_bits g → row.kind ≡ 84 → x ≡ noted_row g row
    note_flag e h = rw h e

    pub note_field : x ≡ with_bits g → row.kind ≡ 83 → x ≡ noted_row g row
    note_field e h = rw h e

  pub note_other : (row.kind ≡ 82 → ⊥) → (row.kind ≡ 65 → ⊥) → (row.kind ≡ 77 → ⊥) → (row.kind ≡ 84 → ⊥)
      → (row.kind ≡ 83 → ⊥) → g ≡ noted_row g row
  note_other r a m t s = rw (
    ne_eqb row.kind 82 r,
    ne_eqb row.kind 65 a,
    ne_eqb row.kind 77 m,
    ne_eqb row.kind 84 t,
    ne_eqb row.kind 83 s,
  )

-- ---- the first M, A and R
module _ (v : Variant) where
  pub variant_none : v.paramoffs ≡ 256 → 256 ≡ length_number (variant_rule (variant_said v))
  variant_none h = rw (eq-eqb v.paramoffs 256 h)

  module _ (given_one : v.paramoffs ≡ 256 → ⊥) where
    pub variant_255 : v.paramoffs ≡ 255 → 256 ≡ length_number (variant_rule (variant_said v))
    variant_255 h = rw (ne_eqb v.paramoffs 256 given_one, eq-eqb v.paramoffs 255 h)

    pub variant_0 : (v.paramoffs ≡ 255 → ⊥) → v.sizemask ≡ 0 → 256 ≡ length_number (variant_rule (variant_said v))
    variant_0 h m = rw (ne_eqb v.paramoffs 256 given_one, ne_eqb v.paramoffs 255 h, eq-eqb v.sizemask 0 m)

    pub variant_counted : (v.paramoffs ≡ 255 → ⊥) → (v.sizemask ≡ 0 → ⊥) → 257 ≡ length_number (variant_rule (variant_said v))
    variant_counted h m = rw (ne_eqb v.paramoffs 256 given_one, ne_eqb v.paramoffs 255 h, ne_eqb v.sizemask 0 m)

    pub variant_ascii_lem : v.ascii ≡ variant_ascii (variant_said v)
    variant_ascii_lem = rw (ne_eqb v.paramoffs 256 given_one)

  pub variant_plain : v.paramoffs ≡ 256 → false ≡ variant_ascii (variant_said v)
  variant_plain h = rw (eq-eqb v.paramoffs 256 h)

module _ (a : ArrayAttrib) where
  pub array_plain : a.len ≡ 256 → false ≡ array_ascii (array_said a)
  array_plain h = rw (eq-eqb a.len 256 h)

  pub array_ascii_lem : (a.len ≡ 256 → ⊥) → a.ascii ≡ array_ascii (array_said a)
  array_ascii_lem h = rw (ne_eqb a.len 256 h)

  array_length : a.len ≡ length_number (array_rule (array_said a))
  array_length = go (eqb a.len 256) refl
    where
      go : (b : Bool) → eqb a.len 256 ≡ b → a.len ≡ length_number (array_rule (cond b None (Some (a.len, a.ascii))))
      go true e = eqb-true a.len 256 e
      go false e = refl

module _ (g : Gathered) where
  pub bitmask_length : g.bitmask < 256 → g.bitmask ≡ length_number (variable_rule (bitmask_in g) (variant_in g))
  bitmask_length h = rw (ne_eqb g.bitmask 257 (λ e. omega arith), lt-ltb g.bitmask 256 h)

  pub bitmask_over : (x : ℕ) → x ≡ length_number (variant_rule (variant_said g.variant)) → 256 ≤ g.bitmask
      → x ≡ length_number (variable_rule (bitmask_in g) (variant_in g))
  bitmask_over x e h = go (eqb g.bitmask 257)
    where
      go : (b : Bool) → x ≡ length_number (variable_rule (cond b None (Some (given g.bitmask))) (variant_in g))
      go true = e
      go false = rw (le-ltb g.bitmask 256 h) e

  module _ (type : ParamType) where
    pub length_byte : type ≡ Byte → 1 ≡ length_number (rule_of type (bitmask_in g) (array_in g) (variant_in g))
    length_byte e = rw e

    pub length_struct : type ≡ StructByte → 1 ≡ length_number (rule_of type (bitmask_in g) (array_in g) (variant_in g))
    length_struct e = rw e

    pub length_const : type ≡ Const → 1 ≡ length_number (rule_of type (bitmask_in g) (array_in g) (variant_in g))
    length_const e = rw e

    pub length_marker : type ≡ Marker → 1 ≡ length_number (rule_of type (bitmask_in g) (array_in g) (variant_in g))
    length_marker e = rw e

    pub length-word : type ≡ Word → 2 ≡ length_number (rule_of type (bitmask_in g) (array_in g) (variant_in g))
    length-word e = rw e

    pub length_bit24 : type ≡ Bit24 → 3 ≡ length_number (rule_of type (bitmask_in g) (array_in g) (variant_in g))
    length_bit24 e = rw e

    pub length_dword : type ≡ Dword → 4 ≡ length_number (rule_of type (bitmask_in g) (array_in g) (variant_in g))
    length_dword e = rw e

    pub length_array : type ≡ Array → g.array.len ≡ length_number (rule_of type (bitmask_in g) (array_in g) (variant_in g))
    length_array e = rw e (array_length g.array)

    module _ (x : ℕ) (is_x : x ≡ length_number (variable_rule (bitmask_in g) (variant_in g))) where
      pub length_variant : type ≡ Variants → x ≡ length_number (rule_of type (bitmask_in g) (array_in g) (variant_in g))
      length_variant e = rw e is_x

      pub length_bitmask : type ≡ Bitmask → x ≡ length_number (rule_of type (bitmask_in g) (array_in g) (variant_in g))
      length_bitmask e = rw e is_x

      pub length_multi : type ≡ MultiArray → x ≡ length_number (rule_of type (bitmask_in g) (array_in g) (variant_in g))
      length_multi e = rw e is_x

    module _ (x : Bool) (is_x : x ≡ is_const type) where
      pub named-not : x ≡ false → ◌≡◌ {A = ℕ} 0 (cond (is_named type (array_in g) (variant_in g)) 1 0)
      named-not e = rw (← is_x, e)

      module _ (a : Bool) (is-a : a ≡ array_ascii (array_said g.array)) (const : x ≡ true) where
        pub named_array : a ≡ true → ◌≡◌ {A = ℕ} 0 (cond (is_named type (array_in g) (variant_in g)) 1 0)
        named_array e = rw (← is_x, const, ← is-a, e)

        module _ (v : Bool) (is-v : v ≡ variant_ascii (variant_said g.variant)) (plain : a ≡ false) where
          pub named_variant : v ≡ true → ◌≡◌ {A = ℕ} 0 (cond (is_named type (array_in g) (variant_in g)) 1 0)
          named_variant e = rw (← is_x, const, ← is-a, plain, ← is-v, e)

          pub named_is : v ≡ false → ◌≡◌ {A = ℕ} 1 (cond (is_named type (array_in g) (variant_in g)) 1 0)
          named_is e = rw (← is_x, const, ← is-a, plain, ← is-v, e)

pub param_loaded : (r : Row) (p next : Place) (g : Gathered) (length named : ℕ)
    → length ≡ length_number (rule_of r.typed (bitmask_in g) (array_in g) (variant_in g))
    → named ≡ cond (is_named r.typed (array_in g) (variant_in g)) 1 0
    → ◌≡◌ {A = Loaded}
    (record {
      kind = 81;
      level = r.level;
      line = p.line;
      at = next.at;
      optionaloffs = r.offset;
      optionalmask = r.mask;
      length = length;
      paramoffs = g.variant.paramoffs;
      sizemask = g.variant.sizemask;
      sizeoffs = g.variant.sizeoffs;
      bits = g.bits;
      named = named;
    })
    (loaded_param r p next g)
param_loaded r p next g length named el en = rw (el, en) refl

-- what the proofs of the small functions go by
pub ruleset laws = (
  member-not,
  member-level,
  outer-not,
  outer-level,
  rule_fixed,
  rule_open,
  rule_counted,
  row_stored,
  variant_had,
  variant_first,
  array_had,
  array_first,
  bitmask_had,
  bitmask_first,
  note_variant,
  note_array,
  note_bitmask,
  note_flag,
  note_field,
  note_other,
  variant_none,
  variant_255,
  variant_0,
  variant_counted,
  variant_ascii_lem,
  variant_plain,
  array_plain,
  array_ascii_lem,
  bitmask_length,
  bitmask_over,
  length_byte,
  length_struct,
  length_const,
  length_marker,
  length-word,
  length_bit24,
  length_dword,
  length_array,
  length_variant,
  length_bitmask,
  length_multi,
  named-not,
  named_array,
  named_variant,
  named_is,
  param_loaded,
)
