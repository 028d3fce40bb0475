-- What a V finds: the value that it wants, or another.
use Rattle.std.specs.Prelude.{Bool, false, not, ℕ, eqb, Option, Some, None}

abbrev pub met : Option ℕ → ℕ → Bool
met (Some u) v = eqb u v
met None v = false

abbrev pub other : Option ℕ → ℕ → Bool
other (Some u) v = not (eqb u v)
other None v = false
