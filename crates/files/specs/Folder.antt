-- What the contract of `load` cites.
use Rattle.std.specs.Prelude.{ℕ, List, Option, Some, None}
use Rattle.io.specs.Counts.{IsPrefixLen}

-- the bytes that were read stand in the lent slice
abbrev pub Loads : List ℕ → Option ℕ → Type 0
Loads bytes (Some n) = IsPrefixLen n bytes
Loads bytes None = Unit {0}
