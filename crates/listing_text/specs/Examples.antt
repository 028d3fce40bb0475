-- Listings worked out. In comments `|` stands for a tab and `/` for a line end.
use Rattle.std.specs.Prelude.{◌≡◌, refl, List, [], ◌∷◌, ◌++◌, ℕ, Some, None, Err}
use Rattle.text.specs.Text.{lines}
use Rattle.text.specs.Print.{shown}
use Rattle.listing_text.specs.Listing.{listing_of, names, form_of, closed, differs}

-- `3|0|8|16|1|42|0/1/`: one row, and the header 1
abbrev listing : List ℕ
listing = 51 ∷ 9 ∷ 48 ∷ 9 ∷ 56 ∷ 9 ∷ 49 ∷ 54 ∷ 9 ∷ 49 ∷ 9 ∷ 52 ∷ 50 ∷ 9 ∷ 48 ∷ 10 ∷ 49 ∷ 10 ∷ []

abbrev row : List ℕ
row = 3 ∷ 0 ∷ 8 ∷ 16 ∷ 1 ∷ 42 ∷ 0 ∷ []

written : listing_of (row ∷ []) 1 ≡ listing
unfolding shown
written = refl

of_the_form : form_of 1 (lines listing) ≡ names 1 2
of_the_form = refl

-- nothing; `1`, a last line that is not ended; `01/`, a leading zero; `1/2/`, a line of one number before the last
empty : form_of 1 (lines []) ≡ Err 1
empty = refl

not-ended : form_of 1 (lines (49 ∷ [])) ≡ Err 1
not-ended = refl

leading_zero : form_of 1 (lines (48 ∷ 49 ∷ 10 ∷ [])) ≡ Err 1
leading_zero = refl

one_too_early : form_of 1 (lines (49 ∷ 10 ∷ 50 ∷ 10 ∷ [])) ≡ Err 1
one_too_early = refl

-- an empty line behind the last; a row on the last line
empty_line : form_of 1 (lines (listing ++ 10 ∷ [])) ≡ Err 2
empty_line = refl

no_header : form_of 1 (lines (listing ++ listing ++ 49 ∷ 9 ∷ 49 ∷ 10 ∷ [])) ≡ Err 2
no_header = refl

-- `18446744073709551615/` and `18446744073709551616/`
greatest : form_of 1 (lines (49 ∷ 56 ∷ 52 ∷ 52 ∷ 54 ∷ 55 ∷ 52 ∷ 52 ∷ 48 ∷ 55 ∷ 51 ∷ 55 ∷ 48 ∷ 57 ∷ 53 ∷ 53 ∷ 49 ∷ 54 ∷ 49
    ∷ 53 ∷ 10 ∷ []))
    ≡ names 18446744073709551615 1
greatest = refl

too_great : form_of 1 (lines (49 ∷ 56 ∷ 52 ∷ 52 ∷ 54 ∷ 55 ∷ 52 ∷ 52 ∷ 48 ∷ 55 ∷ 51 ∷ 55 ∷ 48 ∷ 57 ∷ 53 ∷ 53 ∷ 49 ∷ 54
    ∷ 49 ∷ 54 ∷ 10 ∷ []))
    ≡ Err 1
too_great = refl

-- the same; another value in the row; a row too few, a row too many
same : differs 1 (closed (row ∷ []) 1) listing ≡ None
unfolding shown
same = refl

other-value : differs 1 (closed ((3 ∷ 0 ∷ 8 ∷ 16 ∷ 1 ∷ 43 ∷ 0 ∷ []) ∷ []) 1) listing ≡ Some 1
unfolding shown
other-value = refl

too_short : differs 1 (closed (row ∷ row ∷ []) 1) listing ≡ Some 2
unfolding shown
too_short = refl

too_long : differs 1 (closed [] 1) listing ≡ Some 1
unfolding shown
too_long = refl
