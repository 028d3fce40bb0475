-- LS1 to LS3 (docs/RULES.md): the text of a listing, its form, and the first of its lines that differs.
use Rattle.std.specs.Prelude.{ℕ, zero, suc, ◌+◌, Bool, true, false, cond, ◌&&◌, List, [], ◌∷◌, ◌++◌, length, take, drop, Option, Some, None, Result, Ok, Err}
use Rattle.text.specs.Text.{fields, same, up_to, worth}
use Rattle.text.specs.Print.{shown}
use Rattle.numerals.specs.Numbers.{most}
use Rattle.listing_text.specs.declared.form.Named.{Named}

-- ---- LS1: the text

-- LS1, H18: the numbers of a row
abbrev pub row_width : ℕ
row_width = 7

-- the byte behind a number that these numbers follow: a tab, or the line's end behind the last
abbrev pub stop_of : List ℕ → ℕ
stop_of [] = 0x0a
stop_of (x ∷ xs) = 0x09

-- LS1: the line of these numbers, in decimal
abbrev pub line_of : List ℕ → List ℕ
line_of [] = []
line_of (x ∷ xs) = shown x ++ stop_of xs ∷ line_of xs

-- LS1: line after line
abbrev pub text_of : List (List ℕ) → List ℕ
text_of [] = []
text_of (r ∷ rs) = line_of r ++ text_of rs

-- LS1: behind the rows the header's number, alone on its line
abbrev pub closed : List (List ℕ) → ℕ → List (List ℕ)
closed rows number = rows ++ (number ∷ []) ∷ []

-- LS1: the listing of rows and of a header's number
abbrev pub listing_of : List (List ℕ) → ℕ → List ℕ
listing_of rows number = text_of (closed rows number)

-- ---- LS2: the form

-- LS2: are the fields of a line so many numbers
abbrev pub numbers_in : ℕ → List (List ℕ) → Bool
numbers_in zero [] = true
numbers_in zero (f ∷ fs) = false
numbers_in (suc k) [] = false
numbers_in (suc k) (f ∷ fs) = up_to most f && numbers_in k fs

-- does no line follow
abbrev pub at_end : List (List ℕ) → Bool
at_end [] = false
at_end ([] ∷ []) = true
at_end ([] ∷ l ∷ ls) = false
at_end ((x ∷ xs) ∷ ls) = false

-- LS2: the last line, which is line k, names the header of this number
abbrev pub names : ℕ → ℕ → Result Named ℕ
names number k = Ok (record { number = number; line = k })

-- LS2: the last line, whose number is n
abbrev pub last_of : ℕ → List ℕ → Result Named ℕ
last_of n l = cond (up_to most l) (names (worth 0 l) n) (Err n)

-- LS2: what the lines of a listing from line n on say, and last what stands after the last 0x0A: which header the last line names,
-- or the first line that is not of the form
abbrev pub form_of : ℕ → List (List ℕ) → Result Named ℕ
form_of n [] = Err n
form_of n (l ∷ []) = Err n
form_of n (l ∷ m ∷ ms) = cond (at_end (m ∷ ms)) (last_of n l) (cond (numbers_in row_width (fields l)) (form_of (n + 1) (m ∷ ms)) (Err n))

-- ---- LS3: the first line that differs

-- does s begin with l
abbrev pub begins : List ℕ → List ℕ → Bool
begins l s = same (take (length l) s) l

-- LS3: s, from line n on, beside the lines of these rows: the first line that differs, if one does
abbrev pub differs : ℕ → List (List ℕ) → List ℕ → Option ℕ
differs n [] s = cond (same s []) None (Some n)
differs n (r ∷ rs) s = cond (begins (line_of r) s) (differs (n + 1) rs (drop (length (line_of r)) s)) (Some n)
