-- The rows that stand in a table are those that were laid into it. Assumes nothing.
use mathlib.Core.Path.{◌≡◌, refl, ap}
use mathlib.Core.List.{List, [], ◌∷◌, ◌++◌, map}
use Prim.Native.Nat.{ℕ}
use lib.ListN.{length, drop}
use Rattle.rows.specs.Rows.{flat}
use Rattle.command_rules.specs.Rows.{numbers, table, rows_in}
use Rattle.command_rules.specs.declared.Row.{Row}

laid-first : (rs : List Row) (t : List ℕ) → rows_in (length rs) (flat (map numbers rs) ++ t) ≡ rs
unfolding rows_in
laid-first [] t = refl
laid-first (r ∷ rs) t = ap (λ (l : List Row). r ∷ l) (laid-first rs t)

pub table-rows : (t : List ℕ) (rs : List Row) → rows_in (length rs) (table t rs) ≡ rs
unfolding table
table-rows t rs = laid-first rs (drop (length (flat (map numbers rs))) t)
