-- What the steps of writing totals answer.
use Rattle.std.specs.Prelude.{◌≡◌, List, ℕ, ◌+◌, ◌≤◌, length}
use Rattle.std.proofs.lemmas.List.Edits.{sets}

-- the bytes l, at most so many, are written at the place `at` of the buffer b if they end inside it, and end before the place r; the buffer keeps its length
pub record Appends (few : ℕ) (l b : List ℕ) (at r : ℕ) (b' : List ℕ) : Type 0 where
  pub next : r ≡ at + length l
  pub short : length l ≤ few
  pub fill : at + length l ≤ length b → b' ≡ sets b at l
  pub same : length b' ≡ length b
