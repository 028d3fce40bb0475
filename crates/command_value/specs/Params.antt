-- VT2 (docs/RULES.md): what is shown of a row of a command.
use Rattle.std.specs.Prelude.{ℕ, Bool, false, cond, ◌||◌, List, [], ◌∷◌, eqb}
use Rattle.text.specs.Text.{lines}
use Rattle.text.specs.Records.{records}
use Rattle.command_text.specs.Form.{form}
use Rattle.command_text.specs.Letters.{letter_t}
use Rattle.command_class.specs.Definition.{Item, numbered, under, letter, const_in}
use Rattle.command_rules.specs.Field.{first, as_array, as_variant, array_ascii, variant_ascii}
use Rattle.command_rules.specs.Rows.{param_kind, bit_kind}
use Rattle.command_rules.specs.declared.Row.{Row}
use Rattle.command_row.specs.Answer.{bytes_of}
use Rattle.display.specs.Display.{display, display_bit}

-- ---- the line of a row

-- the lines of a text, with their numbers
abbrev pub lines_of : List ℕ → List Item
lines_of t = numbered 1 (records form (lines t))

-- of these lines those from the number n on
unfoldable pub since : ℕ → List Item → List Item
since n [] = []
since n (i ∷ is) = cond (eqb i.line n) (i ∷ is) (since n is)

-- those behind the first
abbrev pub behind : List Item → List Item
behind [] = []
behind (i ∷ is) = is

-- C12: are the lines under a Q those of an ascii field: by its first A, or by its first R
unfoldable pub is_ascii : List Item → Bool
is_ascii is = array_ascii (first as_array is) || variant_ascii (first as_variant is)

-- VT2: the lines under the Q of line n
abbrev pub items_at : List ℕ → ℕ → List Item
items_at t n = under (behind (since n (lines_of t)))

-- C12: the name of the K of line n among these, or none
abbrev pub const_name : ℕ → List Item → List ℕ
const_name n is = const_in (since n is)

abbrev pub flag_in : List Item → Bool
flag_in [] = false
flag_in (i ∷ is) = eqb (letter i.says) letter_t

-- C11: is the line n a T
abbrev pub is_flag : List ℕ → ℕ → Bool
is_flag t n = flag_in (since n (lines_of t))

-- ---- a row

-- VT2: what is shown of a parameter, a bit child, a repetition
unfoldable pub param_text : List ℕ → List ℕ → Row → List ℕ
param_text t p r =
    display (is_ascii (items_at t r.line)) (const_name r.named (items_at t r.line)) (bytes_of p r)

unfoldable pub bit_text : List ℕ → Row → List ℕ
bit_text t r = display_bit (is_flag t r.line) r.value

unfoldable pub row_text : List ℕ → List ℕ → Row → List ℕ
row_text t p r = cond (eqb r.kind param_kind) (param_text t p r) (cond (eqb r.kind bit_kind) (bit_text t r) [])
