-- CV1 to CV4 (docs/RULES.md): which counts the header of a frame raises, by a frame text.
use Rattle.std.specs.Prelude.{cond, ◌&&◌, List, [], ◌∷◌, ◌++◌, ℕ, zero, suc, ◌+◌, ◌-◌, ◌*◌, eqb, leb, ltb, get_or, set, replicate, Result, Ok, Err}
use Rattle.refusal.specs.Refusal.{number_of}
use Rattle.header_rules.specs.Table.{most_numbers, cell, number_column, symbol_column}
use Rattle.header.specs.Decode.{decoded, told_of, table_after}
use Rattle.totals.specs.Totals.{most}
use Rattle.header.specs.declared.DecodedHeader.{DecodedHeader}
use Rattle.refusal.specs.declared.Refusal.{Refusal}

-- ---- CV1: the counts, by their places; the place `size` is none

-- T33: the most H, P and E lines that a text has: 64 E lines for each of 16 D lines
abbrev pub headers : ℕ
headers = 64

abbrev pub params : ℕ
params = 5120

abbrev pub entries : ℕ
entries = 1024

-- where the counts of the P lines and those of the E lines begin
abbrev pub params_at : ℕ
params_at = headers

abbrev pub entries_at : ℕ
entries_at = params_at + params

-- the place of a refusal's number, 5, 6 or 7, is so much further on
abbrev pub refused_at : ℕ
refused_at = entries_at + entries - 5

-- how many counts there are
abbrev pub size : ℕ
size = refused_at + 8

-- number k of n that stand from a place on
abbrev pub place_in : ℕ → ℕ → ℕ → ℕ
place_in from n k = cond (ltb k n) (from + k) size

abbrev pub header_place : ℕ → ℕ
header_place k = place_in 0 headers k

abbrev pub param_place : ℕ → ℕ
param_place k = place_in params_at params k

-- a symbol, from 1, of the D line of a number
abbrev pub entry_place : ℕ → ℕ → ℕ
entry_place d symbol = cond (eqb symbol 0) size (cond (leb symbol 64) (place_in entries_at entries (d * 64 + symbol - 1)) size)

-- refusal 5, 6 or 7
abbrev pub refused_place : ℕ → ℕ
refused_place n = cond (leb 5 n) (refused_at + n) size

-- ---- CV2, CV3: the places that a frame raises

-- CV2: the D line of P line k; 16 where it has none
abbrev pub no_set : ℕ
no_set = 16

abbrev pub set_at : List ℕ → ℕ → ℕ
set_at sets k = cond (ltb k params) (get_or sets k 0) no_set

-- CV3: those of a row: its P line and its symbol
abbrev pub row_places : List ℕ → ℕ → ℕ → List ℕ
row_places sets number symbol = param_place number ∷ entry_place (set_at sets number) symbol ∷ []

-- CV3: those of m rows of a table, from row k on: of each its P line's number and its symbol are read
abbrev pub rows_from : List ℕ → List ℕ → ℕ → ℕ → List ℕ
rows_from sets table k zero = []
rows_from sets table k (suc m) =
    row_places sets (cell table k number_column) (cell table k symbol_column) ++ rows_from sets table (k + 1) m

-- CV3: by what `decode_header` answers, and by its table then
abbrev pub answer_places : List ℕ → List ℕ → Result DecodedHeader Refusal → List ℕ
answer_places sets table (Ok h) = header_place h.number ∷ rows_from sets table 0 h.rows
answer_places sets table (Err x) = refused_place (number_of x) ∷ []

-- the table of 128 rows behind an answer
abbrev pub table_of : List ℕ → List ℕ → ℕ → ℕ → List ℕ
table_of t d region speed = table_after (replicate most_numbers 0) (told_of t d region speed most_numbers) (decoded t d region speed most_numbers)

-- CV3: the MPDU d by the text t
abbrev pub frame_places : List ℕ → List ℕ → List ℕ → ℕ → ℕ → List ℕ
frame_places sets t d region speed = answer_places sets (table_of t d region speed) (decoded t d region speed most_numbers)

-- ---- CV4: the counts with places raised

-- one more at a place, if there is such and it is below the greatest number, as that of totals
abbrev pub raised : List ℕ → ℕ → List ℕ
raised counts i = cond (ltb i size && ltb (get_or counts i 0) most) (set counts i (get_or counts i 0 + 1)) counts

abbrev pub raised_all : List ℕ → List ℕ → List ℕ
raised_all counts [] = counts
raised_all counts (i ∷ is) = raised_all (raised counts i) is
