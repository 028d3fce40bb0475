-- The lines of any bytes.
use Rattle.std.specs.Prelude.{ℕ, Bool, cond, ◌≡◌, List, [], ◌∷◌, eqb, take, drop}
use Rattle.text.specs.Text.{lines}
use Rattle.text.specs.Scan.{cut}

-- without what stands after the last 0x0A, if that is nothing
abbrev pub ended : List (List ℕ) → List (List ℕ)
ended [] = []
ended ([] ∷ []) = []
ended ((x ∷ xs) ∷ []) = (x ∷ xs) ∷ []
ended (l ∷ m ∷ ms) = l ∷ ended (m ∷ ms)

-- T1: the lines of a text, of which the last need not be ended
abbrev pub lines_in : List ℕ → List (List ℕ)
lines_in t = ended (lines t)

-- the line that begins at a place, without its end
abbrev pub line_at : List ℕ → ℕ → List ℕ
line_at t at = take (cut 0x0a (drop at t)) (drop at t)

-- at the place r begins the line after the one at a place
pub record Follows (t : List ℕ) (at r : ℕ) : Type 0 where
  pub says : lines_in (drop at t) ≡ line_at t at ∷ lines_in (drop r t)

-- is b the first byte of a line, with its end
abbrev pub begins : ℕ → List ℕ → Bool
begins b [] = eqb 0x0a b
begins b (x ∷ xs) = eqb x b

-- the lines of a kind, their first byte
abbrev pub of_kind : ℕ → List (List ℕ) → List (List ℕ)
of_kind b [] = []
of_kind b (l ∷ ls) = cond (begins b l) (l ∷ of_kind b ls) (of_kind b ls)
