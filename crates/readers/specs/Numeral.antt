-- Numbers that people type, and those of fields.
use Rattle.std.specs.Prelude.{ℕ, Bool, cond, ◌&&◌, List, [], ◌∷◌, eqb, ltb, Option, Some, None}
use Rattle.text.specs.Text.{within, worth, up_to}

-- the number that digits say after digits that are worth v; one of 10^19 or more is none
abbrev pub typed : ℕ → List ℕ → Option ℕ
typed v l = cond (within 48 57 l && ltb (worth v l) 10000000000000000000) (Some (worth v l)) None

abbrev pub numeral_of : List ℕ → Option ℕ
numeral_of [] = None
numeral_of (x ∷ xs) = typed 0 (x ∷ xs)

-- does a field say this number, of at most 255
abbrev pub says : ℕ → List ℕ → Bool
says n l = up_to 255 l && eqb (worth 0 l) n
