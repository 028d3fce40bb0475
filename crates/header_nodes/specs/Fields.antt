-- BM2 (docs/RULES.md): which rows of a header are masks of nodes.
use Rattle.std.specs.Prelude.{ℕ, ◌/◌, ◌%◌, Bool, true, false, ◌&&◌, List, eqb, take, drop, Option, Some, None}
use Rattle.frame_text.specs.Form.{Param}
use Rattle.frame_text.specs.declared.ParamType.{ParamType}
use Rattle.frame_text.specs.declared.ParamType.TheVariants.{Hex, Number, NumberSigned, NodeNumber, Boolean, Bitmask}
use Rattle.frame_definition.specs.Definition.{param_numbered}
use Rattle.header_rules.specs.Table.{cell, number_column, start_column, bits_column}

-- the type of a P line, if there is one
abbrev pub type_in : Option Param → Option ParamType
type_in None = None
type_in (Some p) = Some p.type

-- BM2: the type of the P line of number k, as the text says it
unfoldable pub param_type : List ℕ → ℕ → Option ParamType
param_type t k = type_in (param_numbered t k)

abbrev pub is_bitmask : ParamType → Bool
is_bitmask Hex = false
is_bitmask Number = false
is_bitmask NumberSigned = false
is_bitmask NodeNumber = false
is_bitmask Boolean = false
is_bitmask Bitmask = true

abbrev pub is_typed : Option ParamType → Bool
is_typed (Some kind) = is_bitmask kind
is_typed None = false

-- so many bits are whole bytes
abbrev pub whole_bytes : ℕ → Bool
whole_bytes bits = eqb (bits % 8) 0

-- BM2: whole bytes, at a whole byte, of a P line whose type is BITMASK
unfoldable pub is_mask : List ℕ → ℕ → ℕ → ℕ → Bool
is_mask t number start bits = whole_bytes start && (whole_bytes bits && is_typed (param_type t number))

-- BM2: is row k of a header's rows such a field
abbrev pub is_mask_row : List ℕ → List ℕ → ℕ → Bool
is_mask_row t rows k = is_mask t (cell rows k number_column) (cell rows k start_column) (cell rows k bits_column)

-- BM2: its bytes of the MPDU d
abbrev pub mask_at : List ℕ → List ℕ → ℕ → List ℕ
mask_at d rows k = take (cell rows k bits_column / 8) (drop (cell rows k start_column / 8) d)
