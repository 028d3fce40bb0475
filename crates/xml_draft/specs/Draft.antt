-- A text that is written into room for every definition text (T33 of docs/RULES.md).
use Rattle.std.specs.Prelude.{◌≡◌, List, ℕ, ◌+◌, ◌≤◌, ◌<◌, length}
use Rattle.std.proofs.lemmas.List.Edits.{sets}
use Rattle.text.specs.Judge.{most_bytes}

-- the bytes l are written into the room t from n on, and r is behind them; if they end past the room, so does r
pub record Laid (t u : List ℕ) (n r : ℕ) (l : List ℕ) : Type 0 where
  pub low : n + length l ≤ most_bytes → r ≡ n + length l
  pub over : most_bytes < n + length l → most_bytes < r
  pub fill : n + length l ≤ most_bytes → u ≡ sets t n l

-- the room t at n, with `rest` still to be written, is on its way from t₀ at n₀ with all of l to be written
pub record Going (t₀ : List ℕ) (n₀ : ℕ) (l t : List ℕ) (n : ℕ) (rest : List ℕ) : Type 0 where
  pub ends : (u : List ℕ) (r : ℕ) → Laid t u n r rest → Laid t₀ u n₀ r l
