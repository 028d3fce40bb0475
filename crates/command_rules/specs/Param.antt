-- C1, C10 to C12, C16 and L3 (docs/RULES.md): a Q that exists: its value, its row, its bit children.
use Rattle.std.specs.Prelude.{cond, ◌&&◌, List, [], ◌∷◌, ℕ, ◌+◌, ◌-◌, ◌*◌, ◌%◌, eqb, leb, length, get_or, take, drop, Option, Some, None}
use Rattle.std.specs.Int.Bits.{bit_and}
use Rattle.command_text.specs.Form.{Detail, variant, array, bit_flag, bit_field, const, bitmask}
use Rattle.command_class.specs.Definition.{Item, of_item, first_const}
use Rattle.command_rules.specs.Lengths.{masked, size_of}
use Rattle.command_rules.specs.declared.Earlier.{Earlier}
use Rattle.command_rules.specs.declared.Earlier.TheVariants.{Value, NoValue}
use Rattle.command_rules.specs.declared.Length.{Length}
use Rattle.command_rules.specs.Field.{Field}
use Rattle.command_rules.specs.declared.Row.{Row}
use Rattle.command_rules.specs.Rows.{param_kind, bit_kind}

-- C1: a place of the body, counted from the payload's first byte
abbrev pub in_payload : ℕ → ℕ
in_payload at = 2 + at

-- ---- values

-- bytes as a number, the first highest, after bytes that are worth v
unfoldable pub big_endian : ℕ → List ℕ → ℕ
big_endian v [] = v
big_endian v (b ∷ bs) = big_endian (v * 256 + b) bs

-- C10: the value of bytes, if they have one
abbrev pub value_of : List ℕ → Option ℕ
value_of bs = cond (leb 1 (length bs) && leb (length bs) 8) (Some (big_endian 0 bs)) None

-- C16: numbers 5 and 6 of a row
abbrev pub valued : Option ℕ → ℕ
valued (Some v) = 1
valued None = 0

abbrev pub or_zero : Option ℕ → ℕ
or_zero (Some v) = v
or_zero None = 0

-- C12: the line of the K that names the value, or 0
abbrev pub const_line : Field → Option ℕ → ℕ
const_line q (Some v) = cond q.named (first_const (v % 256) q.items) 0
const_line q None = 0

-- C2: the entry that it is for those after it
abbrev pub entry_of : Option ℕ → Earlier
entry_of (Some v) = Value (v % 256)
entry_of None = NoValue

-- ---- bit children

-- C11: the value of a T or S line on the byte b
abbrev pub bit_value : ℕ → Detail → Option ℕ
bit_value b (variant s) = None
bit_value b (array length ascii) = None
bit_value b (bit_flag mask name) = Some (cond (eqb (bit_and b mask) 0) 0 1)
bit_value b (bit_field f) = Some (masked b f.mask (record { 0 = f.shift }))
bit_value b (const value name) = None
bit_value b (bitmask length) = None

-- C16: the row of a bit child
abbrev pub bit_row : ℕ → ℕ → ℕ → ℕ → Row
bit_row line parent start v =
    record { kind = bit_kind; line = line; parent = parent; start = start; end = start + 1; valued = 1; value = v; named = 0; number = 0; lacking = 0 }

-- its row, if a line has one, in front of others
abbrev pub bit_onto : ℕ → ℕ → ℕ → Option ℕ → List Row → List Row
bit_onto line parent start None rs = rs
bit_onto line parent start (Some v) rs = bit_row line parent start v ∷ rs

-- C11: the rows of the byte b, which stands at `start`
unfoldable pub bit_rows : ℕ → ℕ → ℕ → List Item → List Row
bit_rows b parent start [] = []
bit_rows b parent start (i ∷ is) = bit_onto i.line parent start (of_item (bit_value b) i.says) (bit_rows b parent start is)

-- C11: the bit children of a Q that takes the bytes bs
abbrev pub child_rows : Field → ℕ → ℕ → List ℕ → List Row
child_rows q parent start bs = cond (eqb (length bs) 1) (bit_rows (get_or bs 0 0) parent start q.items) []

-- ---- rows

-- C16, L3: the row of a Q that takes the bytes bs and lacks so many more
abbrev pub row_of : Field → ℕ → ℕ → List ℕ → ℕ → Row
row_of q parent start bs lacking =
    record {
      kind = param_kind;
      line = q.line;
      parent = parent;
      start = start;
      end = start + length bs;
      valued = valued (value_of bs);
      value = or_zero (value_of bs);
      named = const_line q (value_of bs);
      number = 0;
      lacking = lacking;
    }

-- the bytes of a body from a place on
abbrev pub bytes_at : List ℕ → ℕ → ℕ → List ℕ
bytes_at body at n = take n (drop at body)

-- the length of a Q at a place of the body, if it exists there, after these entries
abbrev pub size_at : List ℕ → Field → List Earlier → ℕ → Option Length
size_at body q es at = size_of q.offset q.mask q.rule es (length body - at)

-- C17: the rows of a Q whose own is row n, and which has this length at a place of the body
unfoldable pub param_rows : List ℕ → Field → ℕ → Length → ℕ → ℕ → List Row
param_rows body q at size n parent =
    row_of q parent (in_payload at) (bytes_at body at size.taken) size.lacking
    ∷ child_rows q (n + 1) (in_payload at) (bytes_at body at size.taken)

-- the entry that it is
unfoldable pub param_entry : List ℕ → ℕ → ℕ → Earlier
param_entry body at size = entry_of (value_of (bytes_at body at size))
