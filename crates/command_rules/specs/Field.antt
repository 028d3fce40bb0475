-- C4 to C6 and C12 (docs/RULES.md): what the walk looks at in a Q, with its first M, A and R resolved.
use Rattle.std.specs.Prelude.{ℕ, Bool, true, false, cond, not, ◌&&◌, ◌||◌, List, [], ◌∷◌, eqb, Option, Some, None}
use Rattle.command_text.specs.Form.{Size, Detail, variant, array, bit_flag, bit_field, const, bitmask}
use Rattle.command_text.specs.declared.ParamType.{ParamType}
use Rattle.command_text.specs.declared.ParamType.TheVariants.{Byte, StructByte, Const, Marker, Word, Bit24, Dword, Array, Variant, Bitmask, MultiArray}
use Rattle.command_class.specs.Definition.{Item, Parameter, of_item}
use Rattle.command_rules.specs.declared.Rule.{Rule}
use Rattle.command_rules.specs.declared.Rule.TheVariants.{Fixed, Open, Counted}

-- ---- the first line of a kind under a Q

abbrev pub or_else : {A : Type 0} → Option A → Option A → Option A
or_else None b = b
or_else (Some a) b = Some a

-- what the first of these lines tells, of those of which f tells something
abbrev pub first : {A : Type 0} → (Detail → Option A) → List Item → Option A
first f [] = None
first f (i ∷ is) = or_else (of_item f i.says) (first f is)

-- what an R says
abbrev pub as_variant : Detail → Option Size
as_variant (variant s) = Some s
as_variant (array length ascii) = None
as_variant (bit_flag mask name) = None
as_variant (bit_field b) = None
as_variant (const value name) = None
as_variant (bitmask length) = None

-- an A's length, and whether it is ascii
abbrev pub as_array : Detail → Option (ℕ × Bool)
as_array (variant s) = None
as_array (array length ascii) = Some (length, ascii)
as_array (bit_flag mask name) = None
as_array (bit_field b) = None
as_array (const value name) = None
as_array (bitmask length) = None

-- an M's length, if it says one
abbrev pub as_bitmask : Detail → Option (Option ℕ)
as_bitmask (variant s) = None
as_bitmask (array length ascii) = None
as_bitmask (bit_flag mask name) = None
as_bitmask (bit_field b) = None
as_bitmask (const value name) = None
as_bitmask (bitmask length) = Some length

-- ---- what a Q's own lines say of its length

-- C4: by the first A
abbrev pub array_rule : Option (ℕ × Bool) → Rule
array_rule None = Open
array_rule (Some a) = Fixed a.0

-- C6: by the first R
abbrev pub variant_rule : Option Size → Rule
variant_rule None = Open
variant_rule (Some s) = cond (eqb s.offset 255 || eqb s.mask 0) Open (Counted s.offset s.mask (record { 0 = s.shift }))

-- C5: by the first M; one without a length hands over to R, as none does
abbrev pub variable_rule : Option (Option ℕ) → Option Size → Rule
variable_rule None r = variant_rule r
variable_rule (Some None) r = variant_rule r
variable_rule (Some (Some n)) r = Fixed n

-- C4: by the type
abbrev pub rule_of : ParamType → Option (Option ℕ) → Option (ℕ × Bool) → Option Size → Rule
rule_of Byte m a r = Fixed 1
rule_of StructByte m a r = Fixed 1
rule_of Const m a r = Fixed 1
rule_of Marker m a r = Fixed 1
rule_of Word m a r = Fixed 2
rule_of Bit24 m a r = Fixed 3
rule_of Dword m a r = Fixed 4
rule_of Array m a r = array_rule a
rule_of Variant m a r = variable_rule m r
rule_of Bitmask m a r = variable_rule m r
rule_of MultiArray m a r = variable_rule m r

-- ---- whose value is named

abbrev pub array_ascii : Option (ℕ × Bool) → Bool
array_ascii None = false
array_ascii (Some a) = a.1

abbrev pub variant_ascii : Option Size → Bool
variant_ascii None = false
variant_ascii (Some s) = s.ascii

abbrev pub is_const : ParamType → Bool
is_const Byte = false
is_const StructByte = false
is_const Const = true
is_const Marker = false
is_const Word = false
is_const Bit24 = false
is_const Dword = false
is_const Array = false
is_const Variant = false
is_const Bitmask = false
is_const MultiArray = false

-- C12: is the value named by a K
abbrev pub is_named : ParamType → Option (ℕ × Bool) → Option Size → Bool
is_named type a r = is_const type && (not (array_ascii a) && not (variant_ascii r))

-- ---- a Q as the walk looks at it: its line, its condition, what its lines say of its length, whether a K names its value, the lines under it
pub record Field : Type 0 where
  pub line : ℕ
  pub offset : Option ℕ
  pub mask : Option ℕ
  pub rule : Rule
  pub named : Bool
  pub items : List Item

abbrev pub field_of : Parameter → Field
field_of q =
    record {
      line = q.line;
      offset = q.says.offset;
      mask = q.says.mask;
      rule = rule_of q.says.type (first as_bitmask q.items) (first as_array q.items) (first as_variant q.items);
      named = is_named q.says.type (first as_array q.items) (first as_variant q.items);
      items = q.items;
    }
