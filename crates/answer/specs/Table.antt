-- The tables and buffers that calls are lent.
use Rattle.std.specs.Prelude.{◌≡◌, ℕ, ◌≤◌, Bool, true, ◌&&◌, List, [], ◌∷◌, eqb, length, replicate}

-- "`CAP` up to 16,384", rows of ten numbers at most
abbrev pub Ample : List ℕ → Type 0
Ample table = 163840 ≤ length table

-- a table of n numbers that nothing has been written to: "fills the whole table with 0xA5A5A5A5A5A5A5A5"
abbrev pub fresh : ℕ → List ℕ
fresh n = replicate n 0xA5A5A5A5A5A5A5A5

-- nothing has been written to a part of a table, every number of which was the pattern
abbrev pub is_fresh : ℕ → List ℕ → Bool
is_fresh pattern [] = true
is_fresh pattern (x ∷ xs) = eqb x pattern && is_fresh pattern xs

-- where nothing is refused, a buffer holds as many bytes as are answered
abbrev pub Holds : ℕ → ℕ → List ℕ → Type 0
Holds refusal value buffer = refusal ≡ 0 → value ≤ length buffer
