-- What the steps of reading, writing and comparing a listing answer.
use Rattle.std.specs.Prelude.{ℕ, zero, suc, ◌+◌, ◌≤◌, ◌*◌, cond, ◌≡◌, List, [], ◌∷◌, ◌++◌, eqb, length, take, drop, Option, Some, None}
use Rattle.std.proofs.lemmas.List.Edits.{sets}
use Rattle.rows.specs.Rows.{put}
use Rattle.text.specs.Print.{Every, shown}
use Rattle.numerals.specs.Numbers.{most}
use Rattle.listing_text.specs.Listing.{row_width, line_of, text_of, begins}

-- numbers that a listing can say
abbrev pub Small : List ℕ → Type 0
Small numbers = Every (λ x. x ≤ most) numbers

-- the digits of n and a byte behind them are written at the place `at`, and end before the place r
pub record PutsNumber (n stop : ℕ) (line : List ℕ) (at r : ℕ) (line' : List ℕ) : Type 0 where
  pub says : line' ≡ sets line at (shown n ++ stop ∷ [])
  pub count : r ≡ at + length (shown n ++ stop ∷ [])
  pub few : r ≤ at + 21
  pub fits : n ≤ most

-- the line of these numbers stands in front, and has so many bytes
pub record Writes (numbers line : List ℕ) (r : ℕ) (line' : List ℕ) : Type 0 where
  pub says : line' ≡ sets line 0 (line_of numbers)
  pub count : r ≡ length (line_of numbers)
  pub few : r ≤ row_width * 21
  pub small : Small numbers

-- the byte behind a number that so many numbers follow
abbrev pub stop_before : ℕ → ℕ
stop_before more = cond (eqb more 0) 0x0a 0x09

-- how many bytes the line of these numbers has, if s begins with it
pub record Passes (numbers s : List ℕ) (r : Option ℕ) : Type 0 where
  pub says : r ≡ cond (begins (line_of numbers) s) (Some (length (line_of numbers))) None
  pub within : (n : ℕ) → r ≡ Some n → n ≤ length s

-- the first n rows of a table, seven numbers each
abbrev pub rows_in : ℕ → List ℕ → List (List ℕ)
rows_in zero t = []
rows_in (suc n) t = take row_width t ∷ rows_in n (drop row_width t)

-- the buffer with lines written from a place on, each if there is room for it
abbrev pub puts : List ℕ → ℕ → List (List ℕ) → List ℕ
puts b at [] = b
puts b at (r ∷ rs) = puts (put b at (line_of r)) (at + length (line_of r)) rs

-- the line is written at the place `at`, if there is room for it, and ends before the place r
pub record Puts (numbers b : List ℕ) (at r : ℕ) (b' : List ℕ) : Type 0 where
  pub says : b' ≡ put b at (line_of numbers)
  pub count : r ≡ at + length (line_of numbers)
  pub few : r ≤ at + row_width * 21
  pub small : Small numbers

-- all lines are written, each if there is room for it, and have r bytes
pub record PutsAll (rs : List (List ℕ)) (b : List ℕ) (r : ℕ) (b' : List ℕ) : Type 0 where
  pub says : b' ≡ puts b 0 rs
  pub count : r ≡ length (text_of rs)
  pub small : Every Small rs
