-- C18, R10 to R12 (docs/RULES.md): what decoding a command answers and leaves in the table.
use Rattle.std.specs.Prelude.{Bool, true, false, cond, ◌≡◌, List, ℕ, ◌/◌, eqb, leb, ltb, length, drop, Result, Ok, Err}
use Rattle.refusal.specs.Refusal.{most_frame, number_of, carried_by}
use Rattle.command_text.specs.Rules.{verdict}
use Rattle.command_class.specs.Definition.{Entry, definition}
use Rattle.command_rules.specs.Rows.{row_width, table, rows_in}
use Rattle.command_rules.specs.declared.Offsets.{Offsets}
use Rattle.command_rules.specs.declared.Offsets.TheVariants.{Answered, Position}
use Rattle.command_rules.specs.declared.Row.{Row}
use Rattle.command_rules.specs.Param.{in_payload}
use Rattle.command_rules.specs.Walk.{Walked, walk}
use Rattle.command_rules.specs.Sum.{Adds}
use Rattle.command.specs.declared.Rows.{Rows}
use Rattle.refusal.specs.declared.Refusal.{Refusal}

-- D1: which offsets a caller asks for
abbrev pub offsets_by : Bool → Offsets
offsets_by true = Position
offsets_by false = Answered

-- ---- an answer in numbers

-- a refusal's number, or 0, and what it carries; how many rows there are, and where the remainder starts in the payload
pub record Told : Type 0 where
  pub refusal : ℕ
  pub carried : ℕ
  pub rows : ℕ
  pub remainder : ℕ

-- C18: the numbers of an answer
abbrev pub answered : ℕ → ℕ → Told
answered n at = record { refusal = 0; carried = 0; rows = n; remainder = at }

-- R1 to R9: the numbers of a refusal
abbrev pub refused : ℕ → ℕ → Told
refused n x = record { refusal = n; carried = x; rows = 0; remainder = 0 }

-- C18, R1 to R9: the numbers of each case
unfoldable pub told : Result Rows Refusal → Told
told (Ok rows) = answered rows.count rows.remainder.0
told (Err r) = refused (number_of r) (carried_by r)

-- ---- which answer

-- C1: the body of a payload
abbrev pub body_of : List ℕ → List ℕ
body_of payload = drop 2 payload

-- C18, R8: the answer, if a table of `room` numbers has rows enough
unfoldable pub within : Walked → ℕ → Told
within w room = cond (leb (length w.rows) (room / row_width)) (answered (length w.rows) (in_payload w.end)) (refused 8 (length w.rows))

-- R4, R5, R11: a payload that is too long or too short; else the answer by a definition
unfoldable pub answer_by : Offsets → List Entry → List ℕ → ℕ → Told
answer_by offsets ds payload room =
    cond (ltb most_frame (length payload)) (refused 4 (length payload))
    (cond (ltb (length payload) 2) (refused 5 (length payload))
    (within (walk offsets (body_of payload) ds) room))

-- R10, R11: the call checks the text itself, and 1 to 3 come first
abbrev pub on_verdict : Result (Unit {0}) Refusal → Told → Told
on_verdict (Ok tt) answer = answer
on_verdict (Err r) answer = refused (number_of r) (carried_by r)

-- C18, R10: what `decode_params` answers
unfoldable pub answer_of : Offsets → List ℕ → List ℕ → ℕ → Told
answer_of offsets text payload room = on_verdict (verdict text) (answer_by offsets (definition text) payload room)

-- ---- the table

-- R12: the table after an answer or a refusal
abbrev pub filled : List Row → List ℕ → Told → List ℕ
filled rs t a = cond (eqb a.refusal 0) (table t rs) t

-- R12: the same, by a definition and a payload
unfoldable pub table_after : Offsets → List Entry → List ℕ → List ℕ → Told → List ℕ
table_after offsets ds payload t a = filled (walk offsets (body_of payload) ds).rows t a

-- C19, L4, demand 3, of an answer: over the rows that stand in the table
unfoldable pub AddsUp : Offsets → List Entry → List ℕ → Told → List ℕ → Type 0
AddsUp offsets ds payload a t' = a.refusal ≡ 0 → Adds offsets ds (length payload) (rows_in a.rows t') a.remainder

-- what a walk answers, and leaves of the table t
pub record Fills (w : Walked) (t : List ℕ) (a : Told) (t' : List ℕ) : Type 0 where
  pub answer : a ≡ within w (length t)
  pub table_is : t' ≡ filled w.rows t a

-- what a call answers by an accepted text, and leaves of the table t
pub record DecodesBy (offsets : Offsets) (text payload t : List ℕ) (a : Told) (t' : List ℕ) : Type 0 where
  pub answer : a ≡ answer_by offsets (definition text) payload (length t)
  pub table_is : t' ≡ table_after offsets (definition text) payload t a
  pub adds : AddsUp offsets (definition text) payload a t'

-- C18: the same by any text
pub record Decodes (offsets : Offsets) (text payload t : List ℕ) (a : Told) (t' : List ℕ) : Type 0 where
  pub answer : a ≡ answer_of offsets text payload (length t)
  pub table_is : t' ≡ table_after offsets (definition text) payload t a
  pub adds : AddsUp offsets (definition text) payload a t'
