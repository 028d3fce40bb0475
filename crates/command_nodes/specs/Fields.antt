-- BM2 (docs/RULES.md): which rows of a command are masks of nodes.
use Rattle.std.specs.Prelude.{ℕ, Bool, true, false, cond, ◌&&◌, List, [], ◌∷◌, eqb, Option, Some, None}
use Rattle.text.specs.Text.{lines}
use Rattle.text.specs.Records.{records}
use Rattle.command_text.specs.Form.{Record, param, group, item, form}
use Rattle.command_text.specs.declared.ParamType.{ParamType}
use Rattle.command_text.specs.declared.ParamType.TheVariants.{Byte, StructByte, Const, Marker, Word, Bit24, Dword, Array, Variant, Bitmask, MultiArray}
use Rattle.command_text.specs.Letters.{letter_q}
use Rattle.command_class.specs.Definition.{Item, numbered}
use Rattle.command_class.specs.declared.Row.{Row as Line}
use Rattle.command_rules.specs.Rows.{param_kind}
use Rattle.command_rules.specs.declared.Row.{Row}
use Rattle.command_row.specs.Answer.{bytes_of}

-- the type that a line says, if it is a Q
abbrev pub type_said : Record → Option ParamType
type_said (param q) = Some q.type
type_said (group g) = None
type_said (item d) = None

-- the same by the numbers of the line
abbrev pub type_read : Line → Option ParamType
type_read r = cond (eqb r.kind letter_q) (Some r.typed) None

-- the type that line k says, among these
abbrev pub type_among : ℕ → List Item → Option ParamType
type_among k [] = None
type_among k (i ∷ is) = cond (eqb i.line k) (type_said i.says) (type_among k is)

-- BM2: the type of the Q on line k, as the text says it
unfoldable pub param_type : List ℕ → ℕ → Option ParamType
param_type t k = type_among k (numbered 1 (records form (lines t)))

abbrev pub is_bitmask : ParamType → Bool
is_bitmask Byte = false
is_bitmask StructByte = false
is_bitmask Const = false
is_bitmask Marker = false
is_bitmask Word = false
is_bitmask Bit24 = false
is_bitmask Dword = false
is_bitmask Array = false
is_bitmask Variant = false
is_bitmask Bitmask = true
is_bitmask MultiArray = false

abbrev pub is_typed : Option ParamType → Bool
is_typed (Some kind) = is_bitmask kind
is_typed None = false

-- BM2: a parameter's row, of a Q whose type is BITMASK
unfoldable pub is_mask : List ℕ → ℕ → ℕ → Bool
is_mask t kind line = eqb kind param_kind && is_typed (param_type t line)

-- BM2: is it the row of such a parameter
abbrev pub is_mask_row : List ℕ → Row → Bool
is_mask_row t r = is_mask t r.kind r.line

-- BM2: its bytes of the payload
abbrev pub mask_of : List ℕ → Row → List ℕ
mask_of payload r = bytes_of payload r
