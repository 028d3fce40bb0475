-- VT8, VT9 (docs/RULES.md): what showing a row of a header answers and leaves.
use Rattle.std.specs.Prelude.{ℕ, ◌≡◌, cond, List, leb, length, Result, Ok, Err}
use Rattle.refusal.specs.declared.Refusal.TheVariants.{NoSuchField}
use Rattle.buffer.specs.Buffer.{answer_in, buffer_after}
use Rattle.header.specs.Decode.{Within, number_in}
use Rattle.header_nodes.specs.Answer.{answer_of, rows_of}
use Rattle.header_value.specs.Fields.{row_text}
use Rattle.header.specs.declared.DecodedHeader.{DecodedHeader}
use Rattle.refusal.specs.declared.Refusal.{Refusal}

-- VT9: the refusals of `decode_header` come first, then 11 for a row that there is not, then 12
abbrev pub of_decoded : List ℕ → ℕ → ℕ → Result DecodedHeader Refusal → Result ℕ Refusal
of_decoded l k room (Ok h) = cond (leb h.rows k) (Err (NoSuchField k)) (answer_in (length l) room)
of_decoded l k room (Err x) = Err x

-- VT9: what `header_value` answers, and leaves in the buffer b
pub record HeaderValue (t d : List ℕ) (region speed k : ℕ) (b : List ℕ) (r : Result ℕ Refusal) (b' : List ℕ) : Type 0 where
  pub answer : r ≡ of_decoded (row_text t d (rows_of t d region speed) k) k (length b) (answer_of t d region speed)
  pub leaves : b' ≡ buffer_after (row_text t d (rows_of t d region speed) k) b r
  -- 128 rows are enough: there is no refusal by 8
  pub enough : Within t d → number_in (answer_of t d region speed) ≡ 8 → ⊥
