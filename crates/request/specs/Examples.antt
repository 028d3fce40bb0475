-- Words of requests, worked out.
use Rattle.std.specs.Prelude.{◌≡◌, refl, [], ◌∷◌, Some, None}
use Rattle.request.specs.Request.{leading_of, two_of, bytes_of, bytes, none}
use Rattle.request.specs.Row.{asked, unasked, header_of, command_of}

-- `3 12`, `3`, and a word that is empty behind the space
first_of_two : leading_of (51 ∷ 32 ∷ 49 ∷ 50 ∷ []) ≡ Some (3, 2)
first_of_two = refl

alone : leading_of (51 ∷ []) ≡ None
alone = refl

last_empty : leading_of (51 ∷ 32 ∷ []) ≡ Some (3, 2)
last_empty = refl

-- `3 12 5b`, and `3 12`
two_lead : two_of (51 ∷ 32 ∷ 49 ∷ 50 ∷ 32 ∷ 53 ∷ 98 ∷ []) ≡ Some (3, 12, 5)
two_lead = refl

nothing-behind : two_of (51 ∷ 32 ∷ 49 ∷ 50 ∷ []) ≡ None
nothing-behind = refl

-- `-`, `5b02`, `5B`, `5b0`, and no word
no_bytes : bytes_of (45 ∷ []) ≡ bytes []
no_bytes = refl

two_bytes : bytes_of (53 ∷ 98 ∷ 48 ∷ 50 ∷ []) ≡ bytes (0x5b ∷ 0x02 ∷ [])
two_bytes = refl

upper_case : bytes_of (53 ∷ 66 ∷ []) ≡ none
upper_case = refl

odd : bytes_of (53 ∷ 98 ∷ 48 ∷ []) ≡ none
odd = refl

no_word : bytes_of [] ≡ none
no_word = refl

-- `9 2 1 3 5b 02`, `1 9 2 5b 02`, and `2 9 2 5b 02`
header_row : header_of (57 ∷ 32 ∷ 50 ∷ 32 ∷ 49 ∷ 32 ∷ 51 ∷ 32 ∷ 53 ∷ 98 ∷ 32 ∷ 48 ∷ 50 ∷ [])
    ≡ asked 9 (2 ∷ 1 ∷ 3 ∷ []) (53 ∷ 98 ∷ 32 ∷ 48 ∷ 50 ∷ [])
header_row = refl

command_row : command_of (49 ∷ 32 ∷ 57 ∷ 32 ∷ 50 ∷ 32 ∷ 53 ∷ 98 ∷ 32 ∷ 48 ∷ 50 ∷ [])
    ≡ asked 9 (2 ∷ 1 ∷ []) (53 ∷ 98 ∷ 32 ∷ 48 ∷ 50 ∷ [])
command_row = refl

third_mode : command_of (50 ∷ 32 ∷ 57 ∷ 32 ∷ 50 ∷ 32 ∷ 53 ∷ 98 ∷ 32 ∷ 48 ∷ 50 ∷ []) ≡ unasked
third_mode = refl
