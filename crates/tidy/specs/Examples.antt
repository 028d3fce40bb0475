-- Texts and what they are tidied to. In comments `/` stands for a line end and `|` for a tab.
use Rattle.std.specs.Prelude.{◌≡◌, refl, [], ◌∷◌, true}
use Rattle.tidy.specs.Tidy.{tidy_from}

-- no text
empty : tidy_from true [] ≡ []
empty = refl

-- a U line, and a name with a U in it: `U|1|-|U/K|0|U/` is `S|1|-|U/K|0|U/`
names_stay : tidy_from true (85 ∷ 9 ∷ 49 ∷ 9 ∷ 45 ∷ 9 ∷ 85 ∷ 10 ∷ 75 ∷ 9 ∷ 48 ∷ 9 ∷ 85 ∷ 10 ∷ [])
    ≡ 83 ∷ 9 ∷ 49 ∷ 9 ∷ 45 ∷ 9 ∷ 85 ∷ 10 ∷ 75 ∷ 9 ∷ 48 ∷ 9 ∷ 85 ∷ 10 ∷ []
names_stay = refl

-- two of them, one behind the other: `U|1|0|a/U|2|1|b/` is `S|1|0|a/S|2|1|b/`
both : tidy_from true (85 ∷ 9 ∷ 49 ∷ 9 ∷ 48 ∷ 9 ∷ 97 ∷ 10 ∷ 85 ∷ 9 ∷ 50 ∷ 9 ∷ 49 ∷ 9 ∷ 98 ∷ 10 ∷ [])
    ≡ 83 ∷ 9 ∷ 49 ∷ 9 ∷ 48 ∷ 9 ∷ 97 ∷ 10 ∷ 83 ∷ 9 ∷ 50 ∷ 9 ∷ 49 ∷ 9 ∷ 98 ∷ 10 ∷ []
both = refl
