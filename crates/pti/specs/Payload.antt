-- F17, F18, FV1 to FV3, FP1 to FP4, BF2 and BF4 (docs/RULES.md): the frames of a payload as rows of a table. The rules are over w: how many bits of its byte
-- say the region, and which records are beams.
use Rattle.std.specs.Prelude.{◌≡◌, cond, List, [], ◌∷◌, ◌++◌, ℕ, suc, ◌+◌, ◌-◌, ◌/◌, ◌≤◌, eqb, leb, length, get_or, Result, Ok, Err}
use Rattle.refusal.specs.declared.Refusal.TheVariants.{TooLong, MoreRows, Firmware}
use Rattle.refusal.specs.Refusal.{most_payload, number_of, carried_by}
use Rattle.rows.specs.Rows.{laid}
use Rattle.frame.specs.declared.Reading.{Reading}
use Rattle.frame.specs.declared.Rules.{Rules}
use Rattle.frame.specs.declared.PtiFrame.{PtiFrame}
use Rattle.records.specs.Records.{bodies, bytes_of, span_of}
use Rattle.frame.specs.Frame.{region_bits, rules_of, FourBits, Unmarked, is_frame, frame_of, numbers_at, target_numbers}
use Rattle.refusal.specs.declared.Refusal.{Refusal}

-- F17, FP1, BF2: the numbers of a row
abbrev pub row_width : ℕ
row_width = 13

-- F17, FP1, BF2: the row of the frame of record k, whose body starts at this place of the payload: three bytes behind its opening bracket
abbrev pub row_of : ℕ → ℕ → PtiFrame → List ℕ
row_of k body f = numbers_at (body + f.start.0) f ++ (k ∷ (body - 3) ∷ target_numbers f.target)

-- F18, FP1: the rows of the bodies that hold a frame, in their order; the first of these bodies is number k
unfoldable pub rows_in : Rules → List ℕ → ℕ → List (ℕ × ℕ) → List (List ℕ)
rows_in w s k [] = []
rows_in w s k (b ∷ bs) =
    cond (is_frame w (bytes_of s b)) (row_of k b.0 (frame_of w (bytes_of s b)) ∷ rows_in w s (k + 1) bs) (rows_in w s (k + 1) bs)

abbrev pub rows_of : Rules → List ℕ → List (List ℕ)
rows_of w s = rows_in w s 0 (bodies s)

-- FV3: the fifth bit of the byte that says the region is 0 in each of these bodies
abbrev pub FourBitsIn : List ℕ → List (ℕ × ℕ) → Type 0
FourBitsIn s [] = Unit
FourBitsIn s (b ∷ bs) = FourBits (bytes_of s b) × FourBitsIn s bs

-- BF4: the middle bytes of none of these bodies start with the marker
abbrev pub UnmarkedIn : List ℕ → List (ℕ × ℕ) → Type 0
UnmarkedIn s [] = Unit
UnmarkedIn s (b ∷ bs) = Unmarked (bytes_of s b) × UnmarkedIn s bs

-- F18, R11: how many rows there are by these rules, or the refusal, for a table of `room` numbers
abbrev pub frames_by : Rules → List ℕ → ℕ → Result ℕ Refusal
frames_by w s room =
    cond (leb (length s) most_payload)
    (cond (leb (length (rows_of w s)) (room / row_width)) (Ok (length (rows_of w s))) (Err (MoreRows (length (rows_of w s)))))
    (Err (TooLong (length s)))

-- FV2: the firmware is judged first
abbrev pub frames_of : ℕ → Reading → List ℕ → ℕ → Result ℕ Refusal
frames_of firmware reading s room =
    cond (eqb (region_bits firmware) 0) (Err (Firmware firmware)) (frames_by (rules_of firmware reading) s room)

-- F18: an answer in numbers: 0 and the count of rows, or the number of the refusal and what it carries
abbrev pub said : Result ℕ Refusal → ℕ × ℕ
said (Ok n) = (0, n)
said (Err x) = (number_of x, carried_by x)

-- F18, R11: those numbers for a payload by these rules and a table of `room` numbers
abbrev pub said_by : Rules → List ℕ → ℕ → ℕ × ℕ
said_by w s room =
    cond (leb (length s) most_payload) (cond (leb (length (rows_of w s)) (room / row_width)) (0, length (rows_of w s)) (8, length (rows_of w s))) (4, length s)

-- FV2: and by the firmware
abbrev pub said_of : ℕ → Reading → List ℕ → ℕ → ℕ × ℕ
said_of firmware reading s room = cond (eqb (region_bits firmware) 0) (13, firmware) (said_by (rules_of firmware reading) s room)

-- R12: the table after an answer or a refusal
abbrev pub table_after : Rules → List ℕ → List ℕ → Result ℕ Refusal → List ℕ
table_after w s t (Ok n) = laid t (rows_of w s)
table_after w s t (Err x) = t

-- FP2: the numbers of a column rise strictly along rows, from `low` on
abbrev pub Rises : ℕ → ℕ → List (List ℕ) → Type 0
Rises column low [] = Unit
Rises column low (r ∷ rs) = (low ≤ get_or r column 0) × Rises column (suc (get_or r column 0)) rs

-- FP3, FP4: the body that `record_body` shows by a row's record number starts behind the row's bracket, and the row's MPDU lies in it, before the bracket
-- that ends the record
pub record Placed (s row : List ℕ) : Type 0 where
  pub opened : get_or s (get_or row 9 0) 0 ≡ 0x5B
  pub body : span_of s (get_or row 8 0) ≡ (get_or row 9 0 + 3, get_or s (get_or row 9 0 + 1) 0 - 2)
  pub behind : get_or row 9 0 + 3 ≤ get_or row 6 0
  pub before : get_or row 6 0 + get_or row 7 0 ≤ get_or row 9 0 + 1 + get_or s (get_or row 9 0 + 1) 0
  pub closed : get_or s (get_or row 9 0 + 1 + get_or s (get_or row 9 0 + 1) 0) 0 ≡ 0x5D

abbrev pub AllPlaced : List ℕ → List (List ℕ) → Type 0
AllPlaced s [] = Unit
AllPlaced s (r ∷ rs) = Placed s r × AllPlaced s rs

-- FP2 to FP4: where the rows of an answer say that they come from
pub record Located (s : List ℕ) (rows : List (List ℕ)) : Type 0 where
  pub numbers : Rises 8 0 rows
  pub places : Rises 9 0 rows
  pub placed : AllPlaced s rows

abbrev pub LocatedIn : Rules → List ℕ → Result ℕ Refusal → Type 0
LocatedIn w s (Ok n) = Located s (rows_of w s)
LocatedIn w s (Err x) = Unit

-- F18: what a call of `parse_payload` answers, as a case and in numbers, and leaves, for a payload s and a table t
pub record Parses (firmware : ℕ) (reading : Reading) (s t : List ℕ) (r : Result ℕ Refusal) (t' : List ℕ) : Type 0 where
  pub answer : r ≡ frames_of firmware reading s (length t)
  pub numbers : said r ≡ said_of firmware reading s (length t)
  pub table : t' ≡ table_after (rules_of firmware reading) s t r
  pub located : LocatedIn (rules_of firmware reading) s r
