-- What the steps below `add_payload` answer, over the definitions of the rules.
use Rattle.std.specs.Prelude.{◌≡◌, cond, List, [], ◌∷◌, ℕ, ◌+◌, ◌*◌, ◌^◌, ◌≤◌, ◌<◌, length, get_or, set, replicate, Option, Some, None, Result, Ok, Err}
use Rattle.refusal.specs.declared.Refusal.TheVariants.{PastLimit}
use Rattle.records.specs.declared.Span.{Span}
use Rattle.frame.specs.declared.Rules.{Rules}
use Rattle.frame.specs.declared.PtiFrame.{PtiFrame}
use Rattle.frame.specs.Frame.{is_frame, frame_of}
use Rattle.pti.specs.Payload.{row_of}
use Rattle.pti.specs.Steps.{bytes_in}
use Rattle.totals.specs.Totals.{size, frame_counts, within}
use Rattle.refusal.specs.declared.Refusal.{Refusal}

-- sums before any frame
abbrev pub zeros : List ℕ
zeros = replicate size 0

-- sums with counts added, one after the other
abbrev pub tally : List ℕ → List (ℕ × ℕ) → List ℕ
tally sums [] = sums
tally sums (p ∷ ps) = tally (set sums p.0 (get_or sums p.0 0 + p.1)) ps

-- sums with the counts of the frames of these rows added
unfoldable pub tally_rows : (List ℕ → List (ℕ × ℕ)) → List ℕ → List (List ℕ) → List ℕ
tally_rows f sums [] = sums
tally_rows f sums (r ∷ rs) = tally_rows f (tally sums (f r)) rs

-- k numbers of 16 bits can be added to each of these sums
abbrev pub Room : ℕ → List ℕ → Type 0
Room k sums = (i : ℕ) → get_or sums i 0 + k * 65536 < 2 ^ 64

-- counts added to sums: at most m numbers of 16 bits
pub record Tallies (m : ℕ) (counts : List (ℕ × ℕ)) (sums sums' : List ℕ) : Type 0 where
  pub is : sums' ≡ tally sums counts
  pub room : (k : ℕ) → Room (m + k) sums → Room k sums'

-- two tables of totals, added place by place
abbrev pub plus : List ℕ → List ℕ → List ℕ
plus [] ys = []
plus (x ∷ xs) [] = x ∷ xs
plus (x ∷ xs) (y ∷ ys) = (x + y) ∷ plus xs ys

-- the sums added to the totals, if all stay within the limit
pub record AddsSums (totals sums : List ℕ) (r : Result (Unit {0}) Refusal) (totals' : List ℕ) : Type 0 where
  pub answer : r ≡ cond (within (plus totals sums)) (Ok tt) (Err PastLimit)
  pub after : totals' ≡ cond (within (plus totals sums)) (plus totals sums) totals

-- the frame's rate is one of four, and its MPDU lies in the payload, in a body that starts at this place
pub record Lies (s : List ℕ) (body : ℕ) (f : PtiFrame) : Type 0 where
  pub rate : f.rate < 4
  pub inside : body + f.start.0 + f.length ≤ length s

-- the frame of a body, if it holds one
abbrev pub framed_in : Rules → List ℕ → Option PtiFrame
framed_in w b = cond (is_frame w b) (Some (frame_of w b)) None

-- what the frame in a body counts, if it holds one
abbrev pub body_counts : Rules → List ℕ → ℕ → List ℕ → Span → List (ℕ × ℕ)
body_counts w t region s b =
    cond (is_frame w (bytes_in s b)) (frame_counts t region s (row_of 0 b.start.0 (frame_of w (bytes_in s b)))) []
