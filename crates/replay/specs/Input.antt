-- What waits of the input in its buffer.
use Rattle.std.specs.Prelude.{◌≡◌, ℕ, ◌≤◌, List, length}
use Rattle.replay.specs.declared.input.Input.{Input}
use Rattle.replay.specs.declared.input.Found.{Found}
use Rattle.replay.specs.declared.input.Found.TheVariants.{Line, Rest, More}
use Rattle.replay.specs.declared.input.Filled.{Filled}
use Rattle.replay.specs.declared.input.Filled.TheVariants.{More as Read, TooLong, Cut, End}

-- what waits lies in the buffer
pub record In (lines : List ℕ) (i : Input) : Type 0 where
  pub begun : i.start ≤ i.seen
  pub ordered : i.seen ≤ i.end
  pub inside : i.end ≤ length lines

pub record Empty (i : Input) : Type 0 where
  pub starts : i.start ≡ 0
  pub sees : i.seen ≡ 0
  pub ends : i.end ≡ 0

-- a line lies in the buffer, and so does what waits behind it
abbrev pub Finds : List ℕ → Found → Type 0
Finds lines (Line from to i) = (from ≤ to) × ((to ≤ length lines) × In lines i)
Finds lines (Rest i) = In lines i
Finds lines (More i) = In lines i

abbrev pub Fills : List ℕ → Filled → Type 0
Fills lines (Read i) = In lines i
Fills lines (TooLong i) = In lines i
Fills lines Cut = Unit
Fills lines End = Unit
