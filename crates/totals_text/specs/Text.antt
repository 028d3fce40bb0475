-- TO6 (docs/RULES.md): the text of totals.
use Rattle.std.specs.Prelude.{cond, List, [], ◌∷◌, ◌++◌, ℕ, suc, ◌/◌, ◌%◌, eqb, get_or, take}
use Rattle.numerals.specs.Numerals.{decimal}
use Rattle.totals.specs.Totals.{wrong_at, beams_at, repeats_at, bytes_at, refused_at}

-- TO6: a word, a number in decimal and the byte behind it
abbrev pub item : List ℕ → ℕ → ℕ → List ℕ
item word n stop = word ++ (decimal n ++ (stop ∷ []))

-- a space; the end of a line
abbrev pub space : ℕ
space = 0x20

abbrev pub ended : ℕ
ended = 0x0a

-- `key `, `wrong `, `beams `, `repeats `, `bytes `, `refused `
abbrev pub key_word : List ℕ
key_word = 0x6b ∷ 0x65 ∷ 0x79 ∷ 0x20 ∷ []

abbrev pub wrong_word : List ℕ
wrong_word = 0x77 ∷ 0x72 ∷ 0x6f ∷ 0x6e ∷ 0x67 ∷ 0x20 ∷ []

abbrev pub beams_word : List ℕ
beams_word = 0x62 ∷ 0x65 ∷ 0x61 ∷ 0x6d ∷ 0x73 ∷ 0x20 ∷ []

abbrev pub repeats_word : List ℕ
repeats_word = 0x72 ∷ 0x65 ∷ 0x70 ∷ 0x65 ∷ 0x61 ∷ 0x74 ∷ 0x73 ∷ 0x20 ∷ []

abbrev pub bytes_word : List ℕ
bytes_word = 0x62 ∷ 0x79 ∷ 0x74 ∷ 0x65 ∷ 0x73 ∷ 0x20 ∷ []

abbrev pub refused_word : List ℕ
refused_word = 0x72 ∷ 0x65 ∷ 0x66 ∷ 0x75 ∷ 0x73 ∷ 0x65 ∷ 0x64 ∷ 0x20 ∷ []

-- TO6: the line of the count n at place i: its key, its rate and the count
abbrev pub key_line : ℕ → ℕ → List ℕ
key_line i n = item key_word (i / 4) space ++ (item [] (i % 4) space ++ item [] n ended)

-- TO6: the lines of the counts from place i on; a count of 0 has none
unfoldable pub key_lines : ℕ → List ℕ → List ℕ
key_lines i [] = []
key_lines i (n ∷ ns) = cond (eqb n 0) [] (key_line i n) ++ key_lines (suc i) ns

-- TO6: the line of refusal k
abbrev pub refused_line : ℕ → ℕ → List ℕ
refused_line k n = item refused_word k space ++ item [] n ended

-- TO6: the lines of the other totals, all of them
abbrev pub sum_lines : List ℕ → List ℕ
sum_lines totals =
    item wrong_word (get_or totals wrong_at 0) ended
    ++ (item beams_word (get_or totals beams_at 0) ended
    ++ (item repeats_word (get_or totals repeats_at 0) ended ++ item bytes_word (get_or totals bytes_at 0) ended))

abbrev pub refused_lines : List ℕ → List ℕ
refused_lines totals =
    refused_line 5 (get_or totals (refused_at 5) 0) ++ (refused_line 6 (get_or totals (refused_at 6) 0) ++ refused_line 7 (get_or totals (refused_at 7) 0))

-- TO6: the text of totals
unfoldable pub text_of : List ℕ → List ℕ
text_of totals = key_lines 0 (take wrong_at totals) ++ (sum_lines totals ++ refused_lines totals)
