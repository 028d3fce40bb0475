-- X12 (docs/RULES.md): plain form. All F lines, then each B with its P lines, then each H with its P lines and then its V lines, then each D with its E lines.
use Rattle.std.specs.Prelude.{ℕ, suc, Bool, true, cond, not, List, [], ◌∷◌, leb, eqb}
use Rattle.text.specs.Text.{lines, fields}
use Rattle.text.specs.Place.{kind_of}
use Rattle.frame_kept.specs.Letters.{letter_f, letter_b, letter_h, letter_p, letter_v, letter_d}

-- X12: how far the lines have come: 0 among the F lines, 1 in a B, 2 in an H and before its V lines, 3 among its V lines, 4 in a D. May a line of this
-- letter stand there? Which lines may stand under which is for the check of the text to say
abbrev pub stands : ℕ → ℕ → Bool
stands far letter =
    cond (eqb letter letter_f) (eqb far 0)
    (cond (eqb letter letter_b) (leb far 1)
    (cond (eqb letter letter_h) (leb far 3)
    (cond (eqb letter letter_p) (not (eqb far 3)) true)))

-- X12: how far they have come with it
abbrev pub farther : ℕ → ℕ → ℕ
farther far letter =
    cond (eqb letter letter_f) 0
    (cond (eqb letter letter_b) 1
    (cond (eqb letter letter_h) 2
    (cond (eqb letter letter_v) 3
    (cond (eqb letter letter_d) 4 far))))

-- X2, X12: the first of these lines that is out of plain form, where the first of them has the number n; 0 where none is. What stands behind the last 0x0A is
-- no line
abbrev pub misplaced : ℕ → ℕ → List (List ℕ) → ℕ
misplaced far n [] = 0
misplaced far n (l ∷ []) = 0
misplaced far n (l ∷ m ∷ ms) =
    cond (stands far (kind_of (fields l))) (misplaced (farther far (kind_of (fields l))) (suc n) (m ∷ ms)) n

-- X2, X12: the first line of a text that is out of plain form, or 0
abbrev pub out_of_order : List ℕ → ℕ
out_of_order t = misplaced 0 1 (lines t)

-- X12: is a text in plain form
abbrev pub is_plain : List ℕ → Bool
is_plain t = eqb (out_of_order t) 0
