-- BM4 (docs/RULES.md): what listing the nodes of a header's row answers and leaves.
use Rattle.std.specs.Prelude.{ℕ, ◌/◌, ◌≡◌, cond, List, leb, length, replicate, Result, Ok, Err}
use Rattle.refusal.specs.declared.Refusal.TheVariants.{NoSuchField}
use Rattle.frame_text.specs.Rules.{verdict}
use Rattle.header_rules.specs.Table.{row_width, most_numbers}
use Rattle.node_mask.specs.Nodes.{nodes_of, Addresses, listed, nodes_after}
use Rattle.header.specs.Decode.{Within, decoded, told_of, table_after, number_in}
use Rattle.header_nodes.specs.Fields.{is_mask_row, mask_at}
use Rattle.header.specs.declared.DecodedHeader.{DecodedHeader}
use Rattle.refusal.specs.declared.Refusal.{Refusal}

-- BM3: refusal 11, for a row that is no such field
abbrev pub no_such_field : ℕ → Result ℕ Refusal
no_such_field k = Err (NoSuchField k)

-- BM2, BM3: the answer for row k, by a table of `room` nodes
abbrev pub of_row : List ℕ → List ℕ → List ℕ → ℕ → ℕ → Result ℕ Refusal
of_row t d rows k room = cond (is_mask_row t rows k) (listed (mask_at d rows k) room) (no_such_field k)

pub record RowNodes (t d rows : List ℕ) (k : ℕ) (table : List ℕ) (r : Result ℕ Refusal) (table' : List ℕ) : Type 0 where
  pub answer : r ≡ of_row t d rows k (length table)
  pub leaves : table' ≡ nodes_after (mask_at d rows k) table r

-- BM4: by a table of rows that is there: the text comes first, then 11 for a row that there is not
abbrev pub of_lent : Result (Unit {0}) Refusal → List ℕ → List ℕ → List ℕ → ℕ → ℕ → Result ℕ Refusal
of_lent (Ok tt) t d rows k room = cond (leb (length rows / row_width) k) (no_such_field k) (of_row t d rows k room)
of_lent (Err x) t d rows k room = Err x

pub record LentNodes (t d rows : List ℕ) (k : ℕ) (table : List ℕ) (r : Result ℕ Refusal) (table' : List ℕ) : Type 0 where
  pub answer : r ≡ of_lent (verdict t) t d rows k (length table)
  pub leaves : table' ≡ nodes_after (mask_at d rows k) table r

-- ---- the header is decoded first

-- BM4: what `decode_header` answers in a table of 128 rows, and its rows
unfoldable pub answer_of : List ℕ → List ℕ → ℕ → ℕ → Result DecodedHeader Refusal
answer_of t d region speed = decoded t d region speed most_numbers

unfoldable pub rows_of : List ℕ → List ℕ → ℕ → ℕ → List ℕ
rows_of t d region speed = table_after (replicate most_numbers 0) (told_of t d region speed most_numbers) (decoded t d region speed most_numbers)

-- BM4: its refusals come first, then 11 for a row that there is not
abbrev pub of_decoded : List ℕ → List ℕ → List ℕ → ℕ → ℕ → Result DecodedHeader Refusal → Result ℕ Refusal
of_decoded t d rows k room (Ok h) = cond (leb h.rows k) (no_such_field k) (of_row t d rows k room)
of_decoded t d rows k room (Err x) = Err x

-- BM4: what `header_nodes` answers and leaves
pub record HeaderNodes (t d : List ℕ) (region speed k : ℕ) (table : List ℕ) (r : Result ℕ Refusal) (table' : List ℕ) : Type 0 where
  pub answer : r ≡ of_decoded t d (rows_of t d region speed) k (length table) (answer_of t d region speed)
  pub leaves : table' ≡ nodes_after (mask_at d (rows_of t d region speed) k) table r
  -- BM1: the list is exactly the numbers whose bit is set, rising
  pub lists : Addresses (mask_at d (rows_of t d region speed) k) (nodes_of (mask_at d (rows_of t d region speed) k))
  -- 128 rows are enough: 8 is about the nodes alone
  pub enough : Within t d → number_in (answer_of t d region speed) ≡ 8 → ⊥
