-- Laws of the rows that the walks answer. Assumes nothing.
use mathlib.Core.Path.{◌≡◌}
use mathlib.Core.List.{List}
use Prim.Native.Nat.{ℕ, ◌*◌, ◌^◌, ◌≤◌, ◌<◌}
use native.Mathlib.Nat.{mul-le-mul}
use native.Mathlib.Omega.{arith}
use lib.ListN.{length}
use mir.Syntax.{w64}
use mir.Val.{Fits}
use Rattle.header_rules.specs.Table as header
use Rattle.command_rules.specs.Rows as command
use Rattle.request.proofs.Laws.{two_laws, request_laws}
use Rattle.answer.specs.Table.{Ample}
use Rattle.libtap.proofs.Standing.{standing_laws}
use Rattle.walk_requests.specs.declared.Request.{Request}
use Rattle.walk_requests.specs.Walks.{Tables, Inside, Asks}
use Rattle.std.specs.Prelude.{Option, Some}

-- ---- a request
-- the numbers of a table
module _ (cap width : ℕ) (few : cap ≤ 16384) (narrow : width ≤ 10) where
  most : cap * width ≤ 163840
  most = omega (arith, mul-le-mul few narrow)

  pub table_fits : Fits w64 (cap * width)
  table_fits = omega (arith, most)

  pub table_few : cap * width ≤ 163840
  table_few = most

module _ (words : List ℕ) (r : Option (ℕ × ℕ)) (numbers at : ℕ) (told : Tables words r) (is : r ≡ Some (numbers, at)) where
  table : (numbers ≤ 163840) × (at ≤ length words)
  table = rw is at told

  pub table-most : numbers ≤ 163840
  table-most = table.0

  pub table-room : (rows : List ℕ) → Ample rows → numbers ≤ length rows
  table-room rows h = omega (arith, table.0)

  pub table-words : at ≤ length words
  table-words = table.1

module _ (held : List ℕ) (r : Option Request) (q : Request) (told : Asks held r) (is : r ≡ Some q) where
  inside : Inside held q.numbers q.n q.end
  inside = rw is at told

  pub asked-room : (rows : List ℕ) → Ample rows → q.numbers ≤ length rows
  asked-room rows h = omega (arith, inside.few)

  pub asked-ordered : q.n ≤ q.end
  asked-ordered = inside.ordered

  pub asked-within : q.end ≤ length held
  asked-within = inside.within

-- ---- an answer
module _ (t : List ℕ) (room : length t * 8 < 2 ^ 63) (n : ℕ) where
  pub header-fits : n * header.row_width ≤ length t → Fits w64 (n * header.row_width)
  header-fits few = omega (arith, room)

  pub params-fits : n * command.row_width ≤ length t → Fits w64 (n * command.row_width)
  params-fits few = omega (arith, room)

pub ruleset walk_laws = (
  table_fits,
  table_few,
  table-most,
  table-room,
  table-words,
  asked-room,
  asked-ordered,
  asked-within,
  header-fits,
  params-fits,
)

-- The laws that the proofs of this crate's functions go by.
pub ruleset laws = (request_laws, two_laws, walk_laws, standing_laws)
