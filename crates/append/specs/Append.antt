-- Text appended to a lent buffer.
use Rattle.std.specs.Prelude.{◌≡◌, List, ℕ, ◌+◌, ◌^◌, ◌<◌, length}
use Rattle.std.proofs.lemmas.List.Edits.{sets}

-- the place behind the bytes l, which are appended at the place `at`, is a number of the machine's
abbrev pub Room : ℕ → List ℕ → Type 0
Room at l = at + length l < 2 ^ 64

-- the bytes l are put from the place `at` of the buffer b on, as far as it has room, and end before the place r
pub record Laid (l b : List ℕ) (at r : ℕ) (b' : List ℕ) : Type 0 where
  pub next : r ≡ at + length l
  pub fill : b' ≡ sets b at l
