-- O1 (docs/RULES.md): the lines of a frame text by their owners, an F, B, H or D line and all lines up to the next such line. Those of an H line are a block.
use Rattle.std.specs.Prelude.{ℕ, zero, suc, ◌≡◌, Bool, false, cond, List, [], ◌∷◌, ◌++◌, map, eqb, Option, Some, None}
use Rattle.text.specs.Text.{lines, fields}
use Rattle.text.specs.Print.{joined}
use Rattle.frame_text.specs.Form.{Record, form}
use Rattle.frame_text.specs.Rules.{letter, owns}

-- those that meet a test
abbrev pub only : {X : Type 0} → (X → Bool) → List X → List X
only test [] = []
only test (x ∷ xs) = cond (test x) (x ∷ only test xs) (only test xs)

-- n numbers from k on
abbrev pub from : ℕ → ℕ → List ℕ
from k zero = []
from k (suc n) = k ∷ from (suc k) n

-- a line that owns what follows and the lines under it; h H lines and n P lines stand before it in its text. So h is its number if it is an H line, and n is
-- the number of the first P line under it
pub record Section (L : Type 0) : Type 0 where
  pub headers : ℕ
  pub params : ℕ
  pub owner : L
  pub under : List L

-- the letter of what a line says, or 0
abbrev pub letter_of : Option Record → ℕ
letter_of None = 0
letter_of (Some r) = letter r

abbrev pub owns_more : Option Record → Bool
owns_more None = false
owns_more (Some r) = owns r

-- n, and one more if a line has this letter
abbrev pub more : ℕ → Option Record → ℕ → ℕ
more k x n = cond (eqb (letter_of x) k) (suc n) n

-- `says l` is what the line l says
module _ {L : Type 0} (says : L → Option Record) where
  -- how many lines have this letter
  abbrev pub tally : ℕ → List L → ℕ
  tally k [] = 0
  tally k (l ∷ ls) = more k (says l) (tally k ls)

  -- the lines up to the next F, B, H or D line
  abbrev pub until_next : List L → List L
  until_next [] = []
  until_next (l ∷ ls) = cond (owns_more (says l)) [] (l ∷ until_next ls)

  -- the sections of lines, after h H lines and n P lines
  abbrev pub sections : ℕ → ℕ → List L → List (Section L)
  sections h n [] = []
  sections h n (l ∷ ls) =
      cond (owns_more (says l))
      (record { headers = h; params = n; owner = l; under = until_next ls } ∷ sections (more 0x48 (says l) h) (more 0x50 (says l) n) ls)
      (sections (more 0x48 (says l) h) (more 0x50 (says l) n) ls)

  -- O1: a block is the section of an H line, its P and V lines with it
  abbrev pub is_block : Section L → Bool
  is_block s = eqb (letter_of (says s.owner)) 0x48

  abbrev pub blocks : List (Section L) → List (Section L)
  blocks ss = only is_block ss

  -- the sections with a gap for each block
  abbrev pub gap : Section L → Option (Section L)
  gap s = cond (is_block s) None (Some s)

  -- the lines of sections, one section after the other
  abbrev pub lines_of : List (Section L) → List L
  lines_of [] = []
  lines_of (s ∷ ss) = s.owner ∷ (s.under ++ lines_of ss)

  -- the numbers of their H lines, and of their P lines
  abbrev pub header_numbers : List (Section L) → List ℕ
  header_numbers ss = map (λ s. s.headers) (blocks ss)

  abbrev pub param_numbers : List (Section L) → List ℕ
  param_numbers [] = []
  param_numbers (s ∷ ss) = from s.params (tally 0x50 s.under) ++ param_numbers ss

-- ---- of a text

-- the lines that 0x0A ends
abbrev pub ended : List (List ℕ) → List (List ℕ)
ended [] = []
ended (l ∷ []) = []
ended (l ∷ m ∷ ms) = l ∷ ended (m ∷ ms)

abbrev pub Line : Type 0
Line = List ℕ

-- a text has these lines, each ended by 0x0A, and nothing stands behind the last
abbrev pub Has : List ℕ → List Line → Type 0
Has t ls = lines t ≡ ls ++ ([] ∷ [])

-- the text that has these lines
abbrev pub written : List Line → List ℕ
written ls = joined 0x0a (ls ++ ([] ∷ []))

unfoldable pub says_of : Line → Option Record
says_of l = form (fields l)

abbrev pub sections_of : List ℕ → List (Section Line)
sections_of t = sections says_of 0 0 (ended (lines t))
