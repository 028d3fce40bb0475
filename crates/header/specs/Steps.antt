-- What the steps below `decode_accepted` answer.
use Rattle.std.specs.Prelude.{◌≡◌, Bool, cond, List, [], map, ℕ, ◌*◌, ◌/◌, ◌≤◌, leb, length, get_or, Result, Ok, Err}
use Rattle.refusal.specs.declared.Refusal.TheVariants.{MoreRows}
use Rattle.rows.specs.Rows.{put, laid}
use Rattle.frame_definition.specs.Definition.{Numbered, definition}
use Rattle.frame_definition.specs.declared.Candidate.{Candidate}
use Rattle.crc.specs.Crc.{right}
use Rattle.header_fields.specs.Fields.{line_width, fields_in}
use Rattle.header_rules.specs.Table.{row_width}
use Rattle.header_rules.specs.Loaded.{shown}
use Rattle.header_rules.specs.Answer.{answer}
use Rattle.header_rules.specs.Trees.{trees}
use Rattle.header_rules.specs.Told.{Told, offset_of, of_answer, candidates_of, told}
use Rattle.header_paths.specs.Scratch.{scratch_width, rows_in}
use Rattle.header_candidates.specs.declared.Read.{Read}
use Rattle.header.specs.declared.DecodedHeader.{DecodedHeader}
use Rattle.header.specs.declared.Wanted.{Wanted}
use Rattle.header.specs.declared.Wanted.TheVariants.{All, Nothing, One}
use Rattle.header.specs.Decode.{of_told, told_of, decoded, rows_of}
use Rattle.refusal.specs.declared.Refusal.{Refusal}

-- the table with those of these rows that are wanted, each in its place
abbrev pub wanted_in : Wanted → List ℕ → List (List ℕ) → List ℕ
wanted_in All table rs = laid table rs
wanted_in Nothing table rs = table
wanted_in (One k) table rs = put table (k * row_width) (get_or rs k [])

-- R12: the table after an answer or a refusal
abbrev pub wanted_after : Wanted → List ℕ → Told → Result DecodedHeader Refusal → List ℕ
wanted_after wanted table x (Ok h) = wanted_in wanted table (rows_of x)
wanted_after wanted table x (Err y) = table

-- the answer x by the text t, for an MPDU that is right or not, and the rows in the table that are wanted
pub record Gives (t : List ℕ) (ok : Bool) (x : Told) (wanted : Wanted) (table : List ℕ) (r : Result DecodedHeader Refusal) (table' : List ℕ) : Type 0 where
  pub answer : r ≡ of_told t ok x
  pub rows : table' ≡ wanted_after wanted table x r

-- what was read lies in the tables, and in an MPDU of at most 2,048 bytes
pub record Ready (fields scratch : List ℕ) (read : Read) : Type 0 where
  pub lines : read.count * line_width ≤ length fields
  pub rows : read.rows * scratch_width ≤ length scratch
  pub bit_in : read.bit.0 ≤ 16384

-- what is answered for a candidate that was read
abbrev pub headed : Candidate → Read → Bool → DecodedHeader
headed c read ok =
    record {
      number = c.number;
      key = c.key;
      flags = c.flags;
      name = c.name;
      payload = offset_of read.bit.0;
      right = ok;
      rows = read.rows;
    }

-- the rows that were read
abbrev pub rows_read : List ℕ → List ℕ → List ℕ → Read → List (List ℕ)
rows_read t fields scratch read = map (shown (fields_in t fields read.count) (definition t).sets) (rows_in scratch read.rows)

-- have they room in a table
abbrev pub fits : Read → List ℕ → Bool
fits read table = leb read.rows (length table / row_width)

-- the answer h, if they have room; those are written that are wanted
pub record Shows (t fields scratch : List ℕ) (read : Read) (h : DecodedHeader) (wanted : Wanted) (table : List ℕ) (r : Result DecodedHeader Refusal) (table' : List ℕ)
    : Type 0
  where
    pub answer : r ≡ cond (fits read table) (Ok h) (Err (MoreRows read.rows))
    pub rows : table' ≡ cond (fits read table) (wanted_in wanted table (rows_read t fields scratch read)) table

-- the first candidate that holds, behind the base's P lines bs
abbrev pub Picks : List ℕ → List ℕ → ℕ → ℕ → List Numbered → Wanted → List ℕ → Result DecodedHeader Refusal → List ℕ → Type 0
Picks t d speed key bs wanted table r table' =
    Gives t (right d speed) (of_answer (definition t).sets d (length table / row_width)
    (answer 7 d (trees bs) (candidates_of key (definition t)))) wanted table r table'

abbrev pub Reads : List ℕ → List ℕ → ℕ → ℕ → Wanted → List ℕ → Result DecodedHeader Refusal → List ℕ → Type 0
Reads t d speed key wanted table r table' = Gives t (right d speed) (told (definition t) d (length table / row_width) key) wanted table r table'

-- what `decode_header` answers, and those of its rows that are wanted
pub record Answers (t d : List ℕ) (region speed : ℕ) (wanted : Wanted) (table : List ℕ) (r : Result DecodedHeader Refusal) (table' : List ℕ) : Type 0 where
  pub answer : r ≡ decoded t d region speed (length table)
  pub rows : table' ≡ wanted_after wanted table (told_of t d region speed (length table)) r
