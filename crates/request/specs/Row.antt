-- The words of a request for a row.
use Rattle.std.specs.Prelude.{◌≡◌, Bool, false, cond, ◌&&◌, List, [], ◌∷◌, ℕ, ◌≤◌, leb, length, drop, Option, Some, None}
use Rattle.request.specs.Request.{leading_of, two_of, first_of, second_of, fitting_both, InBoth}
use Rattle.request.specs.declared.row.CommandRow.{CommandRow}
use Rattle.request.specs.declared.row.HeaderRow.{HeaderRow}

-- what is asked for: how much room, the other numbers, and behind them the two words of bytes
pub data Asked : Type 0 where
  asked : ℕ → List ℕ → List ℕ → Asked
  unasked : Asked

-- `CAP ROW REGION SPEED TEXT MPDU`: two numbers, and two more
abbrev pub header_end : ℕ → ℕ → List ℕ → Option (ℕ × ℕ × ℕ) → Asked
header_end cap row l (Some (region, speed, at)) = asked cap (row ∷ region ∷ speed ∷ []) (drop at l)
header_end cap row l None = unasked

abbrev pub header_from : List ℕ → Option (ℕ × ℕ × ℕ) → Asked
header_from l (Some (cap, row, at)) = header_end cap row (drop at l) (two_of (drop at l))
header_from l None = unasked

abbrev pub header_of : List ℕ → Asked
header_of l = header_from l (two_of l)

-- `MODE CAP ROW TEXT PAYLOAD`: a number of at most 1, and two more
abbrev pub command_end : ℕ → List ℕ → Option (ℕ × ℕ × ℕ) → Asked
command_end mode l (Some (cap, row, at)) = asked cap (row ∷ mode ∷ []) (drop at l)
command_end mode l None = unasked

abbrev pub command_from : List ℕ → Option (ℕ × ℕ) → Asked
command_from l (Some (mode, at)) = cond (leb mode 1) (command_end mode (drop at l) (two_of (drop at l))) unasked
command_from l None = unasked

abbrev pub command_of : List ℕ → Asked
command_of l = command_from l (leading_of l)

-- so much room and these numbers are asked for, and a buffer holds the bytes of both words, which end at n and e
pub record Reads (most : ℕ) (a : Asked) (held : List ℕ) (cap : ℕ) (numbers : List ℕ) (n e : ℕ) : Type 0 where
  pub words : List ℕ
  pub says : a ≡ asked cap numbers words
  pub few : cap ≤ most
  pub bytes : InBoth (first_of words) (second_of words) held n e

-- no more room than so much is asked for, and so much is enough for the bytes of both words
abbrev pub readable : ℕ → ℕ → Asked → Bool
readable most room (asked cap numbers words) = leb cap most && fitting_both room (first_of words) (second_of words)
readable most room unasked = false

-- what is answered of a request, once a buffer holds the bytes that are decoded
abbrev pub AsksHeader : ℕ → List ℕ → List ℕ → Option HeaderRow → Type 0
AsksHeader most l held (Some q) = Reads most (header_of l) held q.cap (q.row ∷ q.region ∷ q.speed ∷ []) q.n q.end
AsksHeader most l held None = readable most (length held) (header_of l) ≡ false

abbrev pub AsksCommand : ℕ → List ℕ → List ℕ → Option CommandRow → Type 0
AsksCommand most l held (Some q) = Reads most (command_of l) held q.cap (q.row ∷ cond q.by_position 1 0 ∷ []) q.n q.end
AsksCommand most l held None = readable most (length held) (command_of l) ≡ false
