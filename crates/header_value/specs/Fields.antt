-- VT1 (docs/RULES.md): what is shown of a row of a header.
use Rattle.std.specs.Prelude.{ℕ, ◌-◌, ◌/◌, ◌%◌, Bool, cond, ◌&&◌, List, [], ◌∷◌, eqb, ltb, take, drop, Option, Some, None}
use Rattle.frame_text.specs.Form.{Param}
use Rattle.frame_definition.specs.Definition.{Entry, Set, definition, first_set, param_numbered}
use Rattle.header_rules.specs.Table.{cell, number_column, start_column, bits_column, valued_column, value_column, symbol_column}
use Rattle.display.specs.Display.{display_value}

-- ---- its symbol

-- H17: the text of the E of number n, from 1, among these; none for 0
unfoldable pub entry_text : ℕ → List Entry → List ℕ
entry_text n [] = []
entry_text n (e ∷ es) = cond (eqb n 1) e.text (entry_text (n - 1) es)

abbrev pub set_text : ℕ → Option Set → List ℕ
set_text n None = []
set_text n (Some s) = entry_text n s.entries

-- H17: the text of the E of number n, from 1, in the first D of a name
unfoldable pub symbol_text : List ℕ → Option (List ℕ) → ℕ → List ℕ
symbol_text t None n = []
symbol_text t (Some name) n = set_text n (first_set name (definition t).sets)

-- ---- its value and bytes

-- H18: the value, if there is one
abbrev pub value_by : ℕ → ℕ → Option ℕ
value_by valued value = cond (eqb valued 1) (Some value) None

-- more than 64 bits, that are whole bytes at a whole byte
abbrev pub is_long : ℕ → ℕ → Bool
is_long start bits = ltb 64 bits && (eqb (start % 8) 0 && eqb (bits % 8) 0)

-- VT1: the bytes of a field, of those of the MPDU d, if it is such
abbrev pub bytes_of : List ℕ → ℕ → ℕ → List ℕ
bytes_of d start bits = cond (is_long start bits) (take (bits / 8) (drop (start / 8) d)) []

-- ---- a row

-- VT1: what is shown of a field, whose P line says p; the row's numbers are the start bit, the bits, valued, the value and the symbol
unfoldable pub field_text : List ℕ → List ℕ → Option Param → ℕ → ℕ → ℕ → ℕ → ℕ → List ℕ
field_text t d None start bits valued value symbol = []
field_text t d (Some p) start bits valued value symbol =
    display_value (symbol_text t p.set symbol) p.type (value_by valued value) (bytes_of d start bits)

-- VT1: what is shown of row k of a header's rows
unfoldable pub row_text : List ℕ → List ℕ → List ℕ → ℕ → List ℕ
row_text t d rows k =
    field_text t d (param_numbered t (cell rows k number_column)) (cell rows k start_column) (cell rows k bits_column) (cell rows k valued_column)
    (cell rows k value_column) (cell rows k symbol_column)
