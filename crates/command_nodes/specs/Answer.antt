-- BM4, BM6 (docs/RULES.md): what listing the nodes of a command's row answers and leaves.
use Rattle.std.specs.Prelude.{ℕ, ◌/◌, ◌≡◌, cond, List, leb, length, Result, Ok, Err}
use Rattle.refusal.specs.declared.Refusal.TheVariants.{NoSuchField}
use Rattle.command_text.specs.Rules.{verdict}
use Rattle.command_rules.specs.Rows.{row_width}
use Rattle.command_rules.specs.declared.Offsets.{Offsets}
use Rattle.command_rules.specs.declared.Row.{Row}
use Rattle.command_rows.specs.Rows.{row_in}
use Rattle.node_mask.specs.Nodes.{nodes_of, Addresses, listed, nodes_after}
use Rattle.command_row.specs.Answer.{row_of}
use Rattle.command_nodes.specs.Fields.{is_mask_row, mask_of}
use Rattle.refusal.specs.declared.Refusal.{Refusal}

-- BM3: refusal 11, for a row that is no such parameter
abbrev pub no_such_field : ℕ → Result ℕ Refusal
no_such_field k = Err (NoSuchField k)

-- BM2, BM3: the answer for a row, by a table of `room` nodes; k is the number that was asked for
abbrev pub of_row : List ℕ → List ℕ → Row → ℕ → ℕ → Result ℕ Refusal
of_row t payload r k room = cond (is_mask_row t r) (listed (mask_of payload r) room) (no_such_field k)

pub record RowNodes (t payload : List ℕ) (row : Row) (k : ℕ) (table : List ℕ) (r : Result ℕ Refusal) (table' : List ℕ) : Type 0 where
  pub answer : r ≡ of_row t payload row k (length table)
  pub leaves : table' ≡ nodes_after (mask_of payload row) table r

-- BM4: by a table of rows that is there: the text comes first, then 11 for a row that there is not
abbrev pub of_lent : Result (Unit {0}) Refusal → List ℕ → List ℕ → List ℕ → ℕ → ℕ → Result ℕ Refusal
of_lent (Ok tt) t payload rows k room = cond (leb (length rows / row_width) k) (no_such_field k) (of_row t payload (row_in rows k) k room)
of_lent (Err x) t payload rows k room = Err x

pub record LentNodes (t payload rows : List ℕ) (k : ℕ) (table : List ℕ) (r : Result ℕ Refusal) (table' : List ℕ) : Type 0 where
  pub answer : r ≡ of_lent (verdict t) t payload rows k (length table)
  pub leaves : table' ≡ nodes_after (mask_of payload (row_in rows k)) table r

-- ---- the row is walked to

-- BM6: the refusals of `command_row` come first
abbrev pub of_found : List ℕ → List ℕ → ℕ → ℕ → Result Row Refusal → Result ℕ Refusal
of_found t payload k room (Ok row) = of_row t payload row k room
of_found t payload k room (Err x) = Err x

-- BM6: the nodes that are left in the table
abbrev pub left_by : List ℕ → List ℕ → Result ℕ Refusal → Result Row Refusal → List ℕ
left_by payload table r (Ok row) = nodes_after (mask_of payload row) table r
left_by payload table r (Err x) = table

-- BM6: what `command_nodes` answers and leaves
pub record CommandNodes (offsets : Offsets) (t payload : List ℕ) (k : ℕ) (table : List ℕ) (r : Result ℕ Refusal) (table' : List ℕ) : Type 0 where
  pub answer : r ≡ of_found t payload k (length table) (row_of offsets t payload k)
  pub leaves : table' ≡ left_by payload table r (row_of offsets t payload k)
  -- BM1: the list is exactly the numbers whose bit is set, rising
  pub lists : (row : Row) → row_of offsets t payload k ≡ Ok row → Addresses (mask_of payload row) (nodes_of (mask_of payload row))
