-- T21 to T31 (docs/RULES.md): the nine forms of a command text, and the record that a line of each says.
use Rattle.std.specs.Prelude.{ℕ, Bool, true, false, cond, ◌&&◌, List, [], ◌∷◌, eqb, length, Option, Some, None}
use Rattle.text.specs.Text.{field, same, worth, up_to, missing, optional_up_to, name}
use Rattle.text.specs.Place.{kind_of}
use Rattle.command_text.specs.Letters.{letter_q, letter_g, letter_r, letter_a, letter_t, letter_s, letter_u, letter_k, letter_m}
use Rattle.command_text.specs.declared.ParamType.{ParamType}
use Rattle.command_text.specs.declared.ParamType.TheVariants.{Byte, StructByte, Const, Marker, Word, Bit24, Dword, Array, Variant, Bitmask, MultiArray}

-- what a Q line says
pub record Param : Type 0 where
  pub level : ℕ
  pub type : ParamType
  pub name : List ℕ
  pub offset : Option ℕ
  pub mask : Option ℕ

-- what a G line says
pub record Group : Type 0 where
  pub name : List ℕ
  pub offset : ℕ
  pub mask : ℕ
  pub shift : ℕ

-- what an R line says
pub record Size : Type 0 where
  pub offset : ℕ
  pub mask : ℕ
  pub shift : ℕ
  pub ascii : Bool

-- what an S line says
pub record Bits : Type 0 where
  pub mask : ℕ
  pub shift : ℕ
  pub name : List ℕ

-- what an item says: R, A, T, S, K, M
pub data Detail : Type 0 where
  variant : Size → Detail
  array : ℕ → Bool → Detail
  bit_flag : ℕ → List ℕ → Detail
  bit_field : Bits → Detail
  const : ℕ → List ℕ → Detail
  bitmask : Option ℕ → Detail

-- what a line says: a Q, a G or an item
pub data Record : Type 0 where
  param : Param → Record
  group : Group → Record
  item : Detail → Record

-- the number that a field says
abbrev pub value : List ℕ → ℕ
value l = worth 0 l

-- the number that a field says that may be missing
abbrev pub given : List ℕ → Option ℕ
given l = cond (missing l) None (Some (value l))

-- T31: the shift that a field says, 0 where it is missing
abbrev pub shift_of : List ℕ → ℕ
shift_of l = cond (missing l) 0 (value l)

-- T23, T24: ascii is 1
abbrev pub ascii_of : List ℕ → Bool
ascii_of l = eqb (value l) 1

-- T30: the word for a type
abbrev pub type_name : ParamType → List ℕ
type_name Byte = 0x42 ∷ 0x59 ∷ 0x54 ∷ 0x45 ∷ []
type_name StructByte = 0x53 ∷ 0x54 ∷ 0x52 ∷ 0x55 ∷ 0x43 ∷ 0x54 ∷ 0x5f ∷ 0x42 ∷ 0x59 ∷ 0x54 ∷ 0x45 ∷ []
type_name Const = 0x43 ∷ 0x4f ∷ 0x4e ∷ 0x53 ∷ 0x54 ∷ []
type_name Marker = 0x4d ∷ 0x41 ∷ 0x52 ∷ 0x4b ∷ 0x45 ∷ 0x52 ∷ []
type_name Word = 0x57 ∷ 0x4f ∷ 0x52 ∷ 0x44 ∷ []
type_name Bit24 = 0x42 ∷ 0x49 ∷ 0x54 ∷ 0x5f ∷ 0x32 ∷ 0x34 ∷ []
type_name Dword = 0x44 ∷ 0x57 ∷ 0x4f ∷ 0x52 ∷ 0x44 ∷ []
type_name Array = 0x41 ∷ 0x52 ∷ 0x52 ∷ 0x41 ∷ 0x59 ∷ []
type_name Variant = 0x56 ∷ 0x41 ∷ 0x52 ∷ 0x49 ∷ 0x41 ∷ 0x4e ∷ 0x54 ∷ []
type_name Bitmask = 0x42 ∷ 0x49 ∷ 0x54 ∷ 0x4d ∷ 0x41 ∷ 0x53 ∷ 0x4b ∷ []
type_name MultiArray = 0x4d ∷ 0x55 ∷ 0x4c ∷ 0x54 ∷ 0x49 ∷ 0x5f ∷ 0x41 ∷ 0x52 ∷ 0x52 ∷ 0x41 ∷ 0x59 ∷ []

-- T30: all of them
abbrev pub types : List ParamType
types = Byte ∷ StructByte ∷ Const ∷ Marker ∷ Word ∷ Bit24 ∷ Dword ∷ Array ∷ Variant ∷ Bitmask ∷ MultiArray ∷ []

-- the type among these whose word is l
abbrev pub type_among : List ParamType → List ℕ → Option ParamType
type_among [] l = None
type_among (type ∷ others) l = cond (same l (type_name type)) (Some type) (type_among others l)

-- T30: the type of a Q
abbrev pub type_of : List ℕ → Option ParamType
type_of l = type_among types l

abbrev pub known : Option ParamType → Bool
known (Some type) = true
known None = false

-- ---- the forms, by their fields: field 0 is the kind

abbrev pub param_words : List (List ℕ) → Bool
param_words fs = up_to 1 (field 1 fs) && (known (type_of (field 2 fs)) && name (field 3 fs))

abbrev pub param_condition : List (List ℕ) → Bool
param_condition fs = optional_up_to 255 (field 4 fs) && optional_up_to 255 (field 5 fs)

-- T21: level, type and name, then the condition's offset and mask
abbrev pub param_fields : List (List ℕ) → Bool
param_fields fs = param_words fs && param_condition fs

abbrev pub param_form : List (List ℕ) → Bool
param_form fs = eqb (length fs) 6 && param_fields fs

-- T22: name, then three numbers
abbrev pub group_fields : List (List ℕ) → Bool
group_fields fs = name (field 1 fs) && (up_to 255 (field 2 fs) && (up_to 255 (field 3 fs) && up_to 255 (field 4 fs)))

abbrev pub group_form : List (List ℕ) → Bool
group_form fs = eqb (length fs) 5 && group_fields fs

-- T23: offset, mask and shift, then ascii
abbrev pub variant_fields : List (List ℕ) → Bool
variant_fields fs = up_to 255 (field 1 fs) && (up_to 255 (field 2 fs) && (optional_up_to 255 (field 3 fs) && up_to 1 (field 4 fs)))

abbrev pub variant_form : List (List ℕ) → Bool
variant_form fs = eqb (length fs) 5 && variant_fields fs

-- T24: length and ascii
abbrev pub array_form : List (List ℕ) → Bool
array_form fs = eqb (length fs) 3 && (up_to 255 (field 1 fs) && up_to 1 (field 2 fs))

-- T25, T28: a number and a name
abbrev pub named_form : List (List ℕ) → Bool
named_form fs = eqb (length fs) 3 && (up_to 255 (field 1 fs) && name (field 2 fs))

-- T26, T27: mask and shift, then a name
abbrev pub bits_fields : List (List ℕ) → Bool
bits_fields fs = up_to 255 (field 1 fs) && (optional_up_to 255 (field 2 fs) && name (field 3 fs))

abbrev pub bits_form : List (List ℕ) → Bool
bits_form fs = eqb (length fs) 4 && bits_fields fs

-- T29: a length, or none
abbrev pub bitmask_form : List (List ℕ) → Bool
bitmask_form fs = eqb (length fs) 2 && optional_up_to 255 (field 1 fs)

-- ---- what they say
abbrev pub param_of : List (List ℕ) → ParamType → Param
param_of fs type = record {
  level = value (field 1 fs);
  type = type;
  name = field 3 fs;
  offset = given (field 4 fs);
  mask = given (field 5 fs);
}

abbrev pub group_of : List (List ℕ) → Group
group_of fs = record { name = field 1 fs; offset = value (field 2 fs); mask = value (field 3 fs); shift = value (field 4 fs) }

abbrev pub size_of : List (List ℕ) → Size
size_of fs = record { offset = value (field 1 fs); mask = value (field 2 fs); shift = shift_of (field 3 fs); ascii = ascii_of (field 4 fs) }

abbrev pub bits_of : List (List ℕ) → Bits
bits_of fs = record { mask = value (field 1 fs); shift = shift_of (field 2 fs); name = field 3 fs }

abbrev pub of_type : List (List ℕ) → Option ParamType → Option Record
of_type fs (Some type) = Some (param (param_of fs type))
of_type fs None = None

-- the record r, if the line has its form
abbrev pub said : Bool → Option Record → Option Record
said b r = cond b r None

abbrev pub param_said : List (List ℕ) → Option Record
param_said fs = said (param_form fs) (of_type fs (type_of (field 2 fs)))

-- the record that the fields of a line say, if the line is one of the forms. T27: a U is read as an S
abbrev pub form : List (List ℕ) → Option Record
form fs =
    cond (eqb (kind_of fs) letter_q) (param_said fs)
    (cond (eqb (kind_of fs) letter_g) (said (group_form fs) (Some (group (group_of fs))))
    (cond (eqb (kind_of fs) letter_r) (said (variant_form fs) (Some (item (variant (size_of fs)))))
    (cond (eqb (kind_of fs) letter_a) (said (array_form fs) (Some (item (array (value (field 1 fs)) (ascii_of (field 2 fs))))))
    (cond (eqb (kind_of fs) letter_t) (said (named_form fs) (Some (item (bit_flag (value (field 1 fs)) (field 2 fs)))))
    (cond (eqb (kind_of fs) letter_s) (said (bits_form fs) (Some (item (bit_field (bits_of fs)))))
    (cond (eqb (kind_of fs) letter_u) (said (bits_form fs) (Some (item (bit_field (bits_of fs)))))
    (cond (eqb (kind_of fs) letter_k) (said (named_form fs) (Some (item (const (value (field 1 fs)) (field 2 fs)))))
    (cond (eqb (kind_of fs) letter_m) (said (bitmask_form fs) (Some (item (bitmask (given (field 1 fs)))))) None))))))))
