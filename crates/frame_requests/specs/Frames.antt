-- A request for the frames of a payload.
use Rattle.std.specs.Prelude.{ℕ, ◌*◌, ◌≤◌, Bool, false, cond, List, length, ◌==◌, nat_le, Option, Some, None}
use Rattle.request.specs.Request.{two_of}
use Rattle.pti.specs.Payload.{row_width}
use Rattle.frame_requests.specs.declared.frames.Capture.{Capture}

-- `FIRMWARE READING`, the reading 0 or 1, and where the other words start
abbrev pub by_two : Option (ℕ × ℕ × ℕ) → Option (Capture × ℕ)
by_two (Some (firmware, reading, at)) = cond (nat_le reading 1) (Some ((record { firmware = firmware; family = (reading == 1) }), at)) None
by_two None = None

abbrev pub named_of : List ℕ → Option (Capture × ℕ)
named_of words = by_two (two_of words)

-- the same where a request names the firmware, else firmware 2 and reading 0
abbrev pub by_of : Bool → List ℕ → Option (Capture × ℕ)
by_of named words = cond named (named_of words) (Some ((record { firmware = 2; family = false }), 0))

-- no more than 16,384 rows, and bytes that the buffer holds
abbrev pub Asks : List ℕ → Option (ℕ × ℕ) → Type 0
Asks held (Some (numbers, n)) = (numbers ≤ 16384 * row_width) × (n ≤ length held)
Asks held None = Unit
