-- What the steps below `parse_payload` answer, over the definitions of the rules.
use Rattle.std.specs.Prelude.{◌≡◌, cond, List, ℕ, ◌+◌, ◌-◌, ◌*◌, ◌≤◌, ◌<◌, length, Result}
use Rattle.refusal.specs.Refusal.{most_payload}
use Rattle.rows.specs.Rows.{put, laid}
use Rattle.records.specs.declared.Span.{Span}
use Rattle.records.specs.Records.{bytes_of}
use Rattle.frame.specs.declared.Rules.{Rules}
use Rattle.frame.specs.declared.PtiFrame.{PtiFrame}
use Rattle.frame.specs.Frame.{is_frame, frame_of}
use Rattle.pti.specs.Payload.{row_width, row_of, rows_of, frames_by, said, said_by, table_after, LocatedIn}
use Rattle.refusal.specs.declared.Refusal.{Refusal}

-- rows enough for a payload, and no more than it has if that is past the room
pub record Needs (w : Rules) (s : List ℕ) (room r : ℕ) : Type 0 where
  pub enough : length (rows_of w s) ≤ r
  pub exact : room < r → r ≡ length (rows_of w s)

-- 16 bits hold the place of a record's body and that of its MPDU, `start` bytes further on
pub record Low (body start : ℕ) : Type 0 where
  pub behind : 3 ≤ body
  pub mpdu : body + start < 65536

-- a body stands behind its bracket, and before the last byte of a payload that is not too long
pub record Within (s : List ℕ) (b : Span) : Type 0 where
  pub behind : 3 ≤ b.start.0
  pub ordered : b.start.0 ≤ b.end.0
  pub before : b.end.0 < length s
  pub short : length s ≤ most_payload

-- the bytes of a body
abbrev pub bytes_in : List ℕ → Span → List ℕ
bytes_in s b = bytes_of s (b.start.0, b.end.0 - b.start.0)

-- the row of the frame of record k, whose body starts at this place of the payload, written as row n of the table t
pub record WritesRow (f : PtiFrame) (k body n : ℕ) (t : List ℕ) (r : ℕ) (t' : List ℕ) : Type 0 where
  pub next : r ≡ n + 1
  pub table : t' ≡ put t (n * row_width) (row_of k body f)

-- the row of the frame in the body b of record k, if it holds one, written as row n of the table t
pub record Writes (w : Rules) (s : List ℕ) (b : Span) (k n : ℕ) (t : List ℕ) (r : ℕ) (t' : List ℕ) : Type 0 where
  pub next : r ≡ n + cond (is_frame w (bytes_in s b)) 1 0
  pub table : t' ≡ cond (is_frame w (bytes_in s b)) (put t (n * row_width) (row_of k b.start.0 (frame_of w (bytes_in s b)))) t

-- all rows of a payload, written from the first of the table t on
pub record Lays (w : Rules) (s t : List ℕ) (r : ℕ) (t' : List ℕ) : Type 0 where
  pub count : r ≡ length (rows_of w s)
  pub table : t' ≡ laid t (rows_of w s)

-- what is answered and left by these rules, for a payload that is not too long
pub record ParsesBy (w : Rules) (s t : List ℕ) (r : Result ℕ Refusal) (t' : List ℕ) : Type 0 where
  pub answer : r ≡ frames_by w s (length t)
  pub numbers : said r ≡ said_by w s (length t)
  pub table : t' ≡ table_after w s t r
  pub located : LocatedIn w s r
