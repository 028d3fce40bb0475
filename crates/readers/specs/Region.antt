-- The F codes of the PTI's regions, as the table of definitions/README.md has them.
use Rattle.std.specs.Prelude.{ℕ, List, [], ◌∷◌, get_or}

-- those of regions 0 to 17: there is no region 0, and 256 is the code of no F line
abbrev pub codes : List ℕ
codes = 256 ∷ 0 ∷ 1 ∷ 2 ∷ 3 ∷ 5 ∷ 5 ∷ 32 ∷ 7 ∷ 6 ∷ 33 ∷ 8 ∷ 9 ∷ 9 ∷ 9 ∷ 11 ∷ 11 ∷ 11 ∷ []

abbrev pub code_of : ℕ → ℕ
code_of region = get_or codes region 256
