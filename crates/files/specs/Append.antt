-- Bytes behind others in a lent slice.
use Rattle.std.specs.Prelude.{◌≡◌, ℕ, ◌+◌, cond, List, length, nat_le}
use Rattle.std.proofs.lemmas.List.Edits.{sets}

-- the bytes l stand in a slice from the place `at` on, as far as it has room, and r is the place behind them
pub record Appends (l s : List ℕ) (at r : ℕ) (s' : List ℕ) : Type 0 where
  pub next : r ≡ cond (nat_le (at + length l) (length s)) (at + length l) (length s)
  pub fill : s' ≡ sets s at l
