-- H20, R10 and R11 (docs/RULES.md): what is answered for a frame text t and the bytes d of an MPDU, as it is computed, and what that says of the lawful
-- readings.
use Rattle.std.specs.Prelude.{◌≡◌, Bool, true, false, cond, List, [], ◌∷◌, ◌++◌, ℕ, ◌*◌, ◌/◌, ◌≤◌, ltb, length, Some, Result, Ok, Err}
use Rattle.refusal.specs.Refusal.{most_frame, number_of, carried_by}
use Rattle.refusal.specs.declared.Refusal.TheVariants.{TooLong, TooShort, NoBase, NoCandidate, MoreRows}
use Rattle.rows.specs.Rows.{laid}
use Rattle.text.specs.Place.{part_of}
use Rattle.frame_text.specs.Rules.{verdict}
use Rattle.frame_definition.specs.Definition.{Base, definition, base_key, first_base}
use Rattle.frame_definition.specs.Names.{header_name}
use Rattle.crc.specs.Crc.{right}
use Rattle.header_rules.specs.Data.{Candidate}
use Rattle.header_rules.specs.Table.{row_width}
use Rattle.header_rules.specs.Told.{Heading, Told, no_base, no_candidate, more_rows, header, candidates_of, told}
use Rattle.header_rules.specs.Says.{Says, Demand3}
use Rattle.header.specs.declared.DecodedHeader.{DecodedHeader}
use Rattle.refusal.specs.declared.Refusal.{Refusal}

-- ---- every number

-- H20: what is answered by the text t, whose checksum is right or not
abbrev pub header_of : List ℕ → Bool → Heading → DecodedHeader
header_of t ok h =
    record {
      number = h.number;
      key = h.key;
      flags = record { ack = h.ack; routed = h.routed; multicast = h.multicast; error = h.error };
      name = header_name t h.number;
      payload = h.offset;
      right = ok;
      rows = length h.rows;
    }

-- R6 to R8, or the answer
abbrev pub of_told : List ℕ → Bool → Told → Result DecodedHeader Refusal
of_told t ok (no_base key) = Err (NoBase key)
of_told t ok no_candidate = Err NoCandidate
of_told t ok (more_rows n) = Err (MoreRows n)
of_told t ok (header h) = Ok (header_of t ok h)

-- R4, R5, R11: an MPDU that is too long or too short
abbrev pub sized : List ℕ → Result DecodedHeader Refusal → Result DecodedHeader Refusal
sized d r = cond (ltb most_frame (length d)) (Err (TooLong (length d))) (cond (ltb (length d) 2) (Err (TooShort (length d))) r)

-- R1 to R3, R11: the call checks the text itself
abbrev pub judged : Result (Unit {0}) Refusal → Result DecodedHeader Refusal → Result DecodedHeader Refusal
judged (Ok tt) r = r
judged (Err x) r = Err x

-- H1: the base key by the text
abbrev pub key_of : List ℕ → ℕ → ℕ → ℕ
key_of t region speed = base_key region speed (definition t)

-- what is told, for a table of so many numbers: a row has seven
abbrev pub told_of : List ℕ → List ℕ → ℕ → ℕ → ℕ → Told
told_of t d region speed room = told (definition t) d (room / row_width) (key_of t region speed)

-- H20, R10: what `decode_header` answers: first the text decides, then the length, then what is told
abbrev pub decoded : List ℕ → List ℕ → ℕ → ℕ → ℕ → Result DecodedHeader Refusal
decoded t d region speed room = judged (verdict t) (sized d (of_told t (right d speed) (told_of t d region speed room)))

-- the rows of what is told
abbrev pub rows_of : Told → List (List ℕ)
rows_of (no_base key) = []
rows_of no_candidate = []
rows_of (more_rows n) = []
rows_of (header h) = h.rows

-- R12: the table after an answer or a refusal
abbrev pub table_after : List ℕ → Told → Result DecodedHeader Refusal → List ℕ
table_after table x (Ok h) = laid table (rows_of x)
table_after table x (Err y) = table

-- ---- what that says of the lawful readings, without any walk

-- R1 to R8, H20: the number of an answer, 0 for a header, and its values
abbrev pub number_in : Result DecodedHeader Refusal → ℕ
number_in (Ok h) = 0
number_in (Err x) = number_of x

abbrev pub bit : Bool → ℕ
bit true = 1
bit false = 0

abbrev pub values_in : Result DecodedHeader Refusal → List ℕ
values_in (Ok h) =
    h.number ∷ h.key ∷ bit h.flags.ack ∷ bit h.flags.routed ∷ bit h.flags.multicast ∷ bit h.flags.error ∷ h.payload
    ∷ bit h.right
    ∷ h.rows ∷ []
values_in (Err x) = carried_by x ∷ []

-- R6 to R8, H20: those of what is told
abbrev pub number_told : Told → ℕ
number_told (no_base key) = 6
number_told no_candidate = 7
number_told (more_rows n) = 8
number_told (header h) = 0

abbrev pub values_told : Bool → Told → List ℕ
values_told ok (no_base key) = key ∷ []
values_told ok no_candidate = 0 ∷ []
values_told ok (more_rows n) = n ∷ []
values_told ok (header h) =
    h.number ∷ h.key ∷ bit h.ack ∷ bit h.routed ∷ bit h.multicast ∷ bit h.error ∷ h.offset ∷ bit ok ∷ length h.rows ∷ []

-- an accepted text and an MPDU within limits
pub record Within (t d : List ℕ) : Type 0 where
  pub accepted : verdict t ≡ Ok tt
  pub long : 2 ≤ length d
  pub short : length d ≤ most_frame

-- for such: something is told, and it says of the lawful readings what `Says` says
pub record ByReadings (t d : List ℕ) (region speed : ℕ) (table : List ℕ) (r : Result DecodedHeader Refusal) (table' : List ℕ) : Type 0 where
  pub told : Told
  pub says : Says (definition t) d (length table / row_width) (key_of t region speed) told
  -- the answer has its number and its values
  pub number : number_in r ≡ number_told told
  pub values : values_in r ≡ values_told (right d speed) told
  -- R12: a header's rows are laid over the table, a refusal leaves it as it was
  pub leaves : table' ≡ table_after table told r
  -- H20: the name of each candidate, and so that of the answer, stands where it is told
  pub named : (xs : List (Candidate 7)) (c : Candidate 7) (ys : List (Candidate 7)) → candidates_of (key_of t region speed) (definition t) ≡ xs ++ c ∷ ys
      → part_of t (header_name t c.number) ≡ c.says.name
  -- demand 3, for a base header that exists
  pub demand : (b : Base) → first_base (key_of t region speed) (definition t).bases ≡ Some b
      → Demand3 (definition t) d (length table / row_width) (key_of t region speed) b told
  -- 128 rows are enough for every header
  pub enough : 128 * row_width ≤ length table → number_in r ≡ 8 → ⊥

-- ---- H20: what a call of `decode_header` answers and leaves
pub record Decodes (t d : List ℕ) (region speed : ℕ) (table : List ℕ) (r : Result DecodedHeader Refusal) (table' : List ℕ) : Type 0 where
  pub answer : r ≡ decoded t d region speed (length table)
  pub rows : table' ≡ table_after table (told_of t d region speed (length table)) r
  pub by_readings : Within t d → ByReadings t d region speed table r table'
