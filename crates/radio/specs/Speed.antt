-- F13 (docs/RULES.md): the rate of a channel in a region.
use Rattle.std.specs.Prelude.{◌≡◌, Bool, false, cond, ◌&&◌, ◌||◌, List, [], ◌∷◌, ℕ, ◌+◌, ◌*◌, ◌<◌, eqb, get_or}

-- the four lists of zniff-rs, as pairs of a channel and a region: 9.6 kbit/s
abbrev pub baud9600 : List (ℕ × ℕ)
baud9600 =
    (2, 1) ∷ (2, 2) ∷ (2, 3) ∷ (2, 4) ∷ (2, 5) ∷ (2, 6) ∷ (2, 8) ∷ (2, 9) ∷ (2, 11) ∷ (2, 12) ∷ (2, 13) ∷ (2, 15) ∷ (2, 16) ∷ []

-- 40 kbit/s
abbrev pub baud40k : List (ℕ × ℕ)
baud40k = (1, 1) ∷ (1, 2) ∷ (1, 3) ∷ (1, 4) ∷ (1, 5) ∷ (1, 6) ∷ (1, 8) ∷ (1, 9) ∷ (1, 11) ∷ (1, 12) ∷ (1, 13) ∷ (1, 15) ∷ (1, 16) ∷ []

-- 100 kbit/s
abbrev pub baud100k : List (ℕ × ℕ)
baud100k = (0, 1) ∷ (0, 2) ∷ (0, 3) ∷ (0, 4) ∷ (0, 5) ∷ (0, 6) ∷ (0, 7) ∷ (1, 7) ∷ (2, 7) ∷ (0, 8) ∷ (0, 9) ∷ (0, 10) ∷ (1, 10)
    ∷ (2, 10) ∷ (0, 11) ∷ (0, 12) ∷ (0, 13) ∷ (0, 15) ∷ (0, 16) ∷ []

-- Long Range
abbrev pub baud_lr : List (ℕ × ℕ)
baud_lr = (3, 12) ∷ (3, 13) ∷ (0, 14) ∷ (1, 14) ∷ (3, 15) ∷ (3, 16) ∷ (0, 17) ∷ (1, 17) ∷ []

-- a list has a channel with a region
abbrev pub contains : List (ℕ × ℕ) → ℕ → ℕ → Bool
contains [] channel region = false
contains (x ∷ xs) channel region = (eqb channel x.0 && eqb region x.1) || contains xs channel region

-- F13: 0 is 9.6 kbit/s, 1 is 40, 2 is 100, 3 is Long Range; 0 for a pair that no list has
unfoldable pub rate_of : ℕ → ℕ → ℕ
rate_of channel region =
    cond (contains baud9600 channel region) 0
    (cond (contains baud40k channel region) 1
    (cond (contains baud100k channel region) 2
    (cond (contains baud_lr channel region) 3 0)))

-- F13: a table has the rate of each of 16 channels in each of 32 regions
pub record RateTable (t : List ℕ) : Type 0 where
  pub entry : (channel region : ℕ) → channel < 16 → region < 32 → get_or t (channel * 32 + region) 0 ≡ rate_of channel region
