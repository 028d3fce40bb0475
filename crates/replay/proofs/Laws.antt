-- Laws of what lies in the lent buffers from request to request. Assumes nothing.
use mathlib.Core.Path.{◌≡◌}
use mathlib.Core.List.{List}
use Prim.Native.Nat.{ℕ, ◌≤◌}
use native.Mathlib.Omega.{arith}
use lib.ListN.{length}
use Rattle.request.proofs.Laws.{two_laws, request_laws}
use Rattle.libtap.proofs.Standing.{standing_laws}
use Rattle.replay.specs.declared.input.Input.{Input}
use Rattle.replay.specs.declared.input.Found.{Found}
use Rattle.replay.specs.declared.input.Found.TheVariants.{Line, Rest, More}
use Rattle.replay.specs.declared.input.Filled.{Filled}
use Rattle.replay.specs.declared.input.Filled.TheVariants.{More as Read, TooLong as TooLongLine}
use Rattle.replay.specs.declared.serve.Turn.{Turn}
use Rattle.replay.specs.declared.serve.Turn.TheVariants.{Next}
use Rattle.replay.specs.Input.{In, Empty, Finds, Fills}
use Rattle.replay.specs.Serve.{Goes}

-- ---- the input
pub empty_in : (lines : List ℕ) (i : Input) → Empty i → In lines i
empty_in lines i e = record { begun = omega (arith, e.starts, e.sees); ordered = omega (arith, e.sees, e.ends); inside = omega (arith, e.ends) }

module _ (lines : List ℕ) (r : Found) (told : Finds lines r) where
  module _ (from to : ℕ) (i : Input) (is : r ≡ Line from to i) where
    line : (from ≤ to) × ((to ≤ length lines) × In lines i)
    line = rw is at told

    pub line_ordered : from ≤ to
    line_ordered = line.0

    pub line_inside : to ≤ length lines
    line_inside = line.1.0

    pub line_behind : In lines i
    line_behind = line.1.1

  pub rest-behind : (i : Input) → r ≡ Rest i → In lines i
  rest-behind i is = rw is at told

  pub more_waits : (i : Input) → r ≡ More i → In lines i
  more_waits i is = rw is at told

module _ (lines : List ℕ) (r : Filled) (told : Fills lines r) where
  pub read_waits : (i : Input) → r ≡ Read i → In lines i
  read_waits i is = rw is at told

  pub long_waits : (i : Input) → r ≡ TooLongLine i → In lines i
  long_waits i is = rw is at told

-- ---- from request to request
pub goes_in : (lines : List ℕ) (r : Turn) (i : Input) (used : ℕ) → Goes lines r → r ≡ Next i used → In lines i
goes_in lines r i used told is = rw is at told

-- The laws that the proofs of this crate's functions go by.
pub ruleset laws = (
  request_laws,
  two_laws,
  standing_laws,
  empty_in,
  line_ordered,
  line_inside,
  line_behind,
  rest-behind,
  more_waits,
  read_waits,
  long_waits,
  goes_in,
)
