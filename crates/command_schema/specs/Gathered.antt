-- What is gathered of the lines under a Q: its first M, A and R, and how many T and S lines there are.
use Rattle.std.specs.Prelude.{ℕ, ◌+◌, ◌≤◌, Bool, false, cond, ◌≡◌, List, [], ◌∷◌, eqb, Option, Some, None}
use Rattle.text.specs.Records.{Readable}
use Rattle.text.specs.declared.Place.{Place}
use Rattle.command_text.specs.Form.{Record, Size, param, group, item, Detail, variant, array, bit_flag, bit_field, const, bitmask}
use Rattle.command_text.specs.Rules.{rules}
use Rattle.command_class.specs.Definition.{Item, under}
use Rattle.command_text.specs.Letters.{letter_r, letter_a, letter_t, letter_s, letter_m}
use Rattle.command_class.specs.Find.{from, among, no_number, or_missing}
use Rattle.command_class.specs.declared.Row.{Row}
use Rattle.command_lengths.specs.Entries.{given}
use Rattle.command_rules.specs.declared.Rule.{Rule}
use Rattle.command_rules.specs.declared.Rule.TheVariants.{Fixed, Open, Counted}
use Rattle.command_schema.specs.declared.items.Gathered.{Gathered}
use Rattle.command_schema.specs.declared.items.ArrayAttrib.{ArrayAttrib}
use Rattle.command_schema.specs.declared.items.Variant.{Variant}
use Rattle.command_schema.specs.declared.items.Under.{Under}
use Rattle.command_schema.specs.Heads.{heads}

-- the length of the first M where there is no M
abbrev pub no_bitmask : ℕ
no_bitmask = 257

-- no M, no A, no R, no T or S
abbrev pub gathered_none : Gathered
gathered_none =
    record {
      bitmask = no_bitmask;
      array = record { len = no_number; ascii = false };
      variant = record { paramoffs = no_number; sizemask = 0; sizeoffs = 0; ascii = false };
      bits = 0;
    }

-- with an R, an A, an M, a T or S
abbrev pub with_variant : Gathered → ℕ → ℕ → ℕ → Bool → Gathered
with_variant g offset mask shift ascii =
    cond (eqb g.variant.paramoffs no_number)
    (record {
      bitmask = g.bitmask;
      array = g.array;
      variant = record { paramoffs = offset; sizemask = mask; sizeoffs = shift; ascii = ascii };
      bits =
          g.bits;
    })
    g

abbrev pub with_array : Gathered → ℕ → Bool → Gathered
with_array g length ascii =
    cond (eqb g.array.len no_number)
    (record { bitmask = g.bitmask; array = record { len = length; ascii = ascii }; variant = g.variant; bits = g.bits })
    g

abbrev pub with_bitmask : Gathered → ℕ → Gathered
with_bitmask g length =
    cond (eqb g.bitmask no_bitmask) (record { bitmask = length; array = g.array; variant = g.variant; bits = g.bits }) g

abbrev pub with_bits : Gathered → Gathered
with_bits g = record { bitmask = g.bitmask; array = g.array; variant = g.variant; bits = g.bits + 1 }

-- with one item more
abbrev pub noted_item : Gathered → Detail → Gathered
noted_item g (variant s) = with_variant g s.offset s.mask s.shift s.ascii
noted_item g (array length ascii) = with_array g length ascii
noted_item g (bit_flag mask name) = with_bits g
noted_item g (bit_field b) = with_bits g
noted_item g (const value name) = g
noted_item g (bitmask length) = with_bitmask g (or_missing length)

-- with one line more
abbrev pub noted : Gathered → Record → Gathered
noted g (param q) = g
noted g (group q) = g
noted g (item d) = noted_item g d

-- the same, by the numbers of a line
abbrev pub noted_row : Gathered → Row → Gathered
noted_row g r =
    cond (eqb r.kind letter_r) (with_variant g r.offset r.mask r.shift r.ascii)
    (cond (eqb r.kind letter_a) (with_array g r.value r.ascii)
    (cond (eqb r.kind letter_m) (with_bitmask g r.value)
    (cond (among letter_t letter_s letter_s r.kind) (with_bits g) g)))

-- with these lines more
unfoldable pub gathered : Gathered → List Item → Gathered
gathered g [] = g
gathered g (i ∷ is) = gathered (noted g i.says) is

-- what is gathered from the place p on, and the place after the lines under the Q
pub record Gathers (t : List ℕ) (p : Place) (r : Under) : Type 0 where
  pub all : r.gathered ≡ gathered gathered_none (under (from t p))
  pub heads-left : heads (from t p) ≡ heads (from t r.next)
  pub readable : Readable rules t r.next
  pub on : p.at ≤ r.next.at
  pub few : r.gathered.bits ≤ r.next.at

-- the first M, A and R, as they are gathered
abbrev pub bitmask_in : Gathered → Option (Option ℕ)
bitmask_in g = cond (eqb g.bitmask no_bitmask) None (Some (given g.bitmask))

abbrev pub array_said : ArrayAttrib → Option (ℕ × Bool)
array_said a = cond (eqb a.len no_number) None (Some (a.len, a.ascii))

abbrev pub array_in : Gathered → Option (ℕ × Bool)
array_in g = array_said g.array

abbrev pub variant_said : Variant → Option Size
variant_said v =
    cond (eqb v.paramoffs no_number) None (Some (record { offset = v.paramoffs; mask = v.sizemask; shift = v.sizeoffs; ascii = v.ascii }))

abbrev pub variant_in : Gathered → Option Size
variant_in g = variant_said g.variant

-- how a row says that a Q's length is the rest: a length that is missing is the rest
abbrev pub open_length : ℕ
open_length = no_number

-- and that an entry counts it
abbrev pub counted_length : ℕ
counted_length = 257

-- how a row says a Q's length
abbrev pub length_number : Rule → ℕ
length_number (Fixed n) = n
length_number Open = open_length
length_number (Counted offset mask shift) = counted_length
