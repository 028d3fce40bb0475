-- E11 (docs/RULES.md), refusals by the same text, a field that is cut, and a group.
use Rattle.std.specs.Prelude.{◌≡◌, refl, List, [], ◌∷◌, ℕ}
use Rattle.command_class.specs.Definition.{definition}
use Rattle.command_rules.specs.Lengths.{size_of, repeats}
use Rattle.command_rules.specs.Rows.{table}
use Rattle.command_rules.specs.Param.{big_endian, bit_rows, param_rows, param_entry}
use Rattle.command_rules.specs.Walk.{members, turn, repetition_row, repetitions, group_at, outer, walk}
use Rattle.command_rules.specs.declared.Offsets.TheVariants.{Answered}
use Rattle.command.specs.Answer.{answered, refused, within, answer_by, answer_of, table_after}

-- `Q|0|BYTE|Length|-|-/Q|0|VARIANT|Data|-|-/R|0|7|0|0/`, | a tab and / a line end
abbrev pub text : List ℕ
text =
    81 ∷ 9 ∷ 48 ∷ 9 ∷ 66 ∷ 89 ∷ 84 ∷ 69 ∷ 9 ∷ 76 ∷ 101 ∷ 110 ∷ 103 ∷ 116 ∷ 104 ∷ 9 ∷ 45 ∷ 9 ∷ 45 ∷ 10 ∷ 81 ∷ 9
    ∷ 48 ∷ 9 ∷ 86 ∷ 65 ∷ 82 ∷ 73 ∷ 65 ∷ 78 ∷ 84 ∷ 9 ∷ 68 ∷ 97 ∷ 116 ∷ 97 ∷ 9 ∷ 45 ∷ 9 ∷ 45 ∷ 10 ∷ 82 ∷ 9 ∷ 48
    ∷ 9 ∷ 55 ∷ 9 ∷ 48 ∷ 9 ∷ 48 ∷ 10 ∷ []

abbrev pub payload : List ℕ
payload = 0x20 ∷ 0x01 ∷ 0x02 ∷ 0xAA ∷ 0xBB ∷ 0xCC ∷ []

abbrev pub lent : List ℕ
lent = 9 ∷ 9 ∷ 9 ∷ 9 ∷ 9 ∷ 9 ∷ 9 ∷ 9 ∷ 9 ∷ 9 ∷ 9 ∷ 9 ∷ 9 ∷ 9 ∷ 9 ∷ 9 ∷ 9 ∷ 9 ∷ 9 ∷ 9 ∷ 9 ∷ 9 ∷ []

-- E11: by a table of 22 numbers
pub starred : answer_of Answered text payload 22 ≡ answered 2 5
unfolding answer_of answer_by within walk outer size_of param_rows param_entry big_endian bit_rows
starred = refl

-- E11: the two rows; the two numbers behind them are as they were
pub starred-rows : table_after Answered (definition text) payload lent (answer_of Answered text payload 22)
    ≡ 0 ∷ 1 ∷ 0 ∷ 2 ∷ 3 ∷ 1 ∷ 2 ∷ 0 ∷ 0 ∷ 0
    ∷ 0 ∷ 2 ∷ 0 ∷ 3 ∷ 5 ∷ 1 ∷ 0xAABB ∷ 0 ∷ 0 ∷ 0
    ∷ 9 ∷ 9 ∷ []
unfolding answer_of answer_by within walk outer size_of param_rows param_entry big_endian bit_rows table_after table
starred-rows = refl

-- the same cut off behind its third byte: Data wants two bytes, takes one and lacks one
cut-rows : table_after Answered (definition text) (0x20 ∷ 0x01 ∷ 0x02 ∷ 0xAA ∷ []) lent
    (answer_of Answered text (0x20 ∷ 0x01 ∷ 0x02 ∷ 0xAA ∷ []) 22)
    ≡ 0 ∷ 1 ∷ 0 ∷ 2 ∷ 3 ∷ 1 ∷ 2 ∷ 0 ∷ 0 ∷ 0
    ∷ 0 ∷ 2 ∷ 0 ∷ 3 ∷ 4 ∷ 1 ∷ 0xAA ∷ 0 ∷ 0 ∷ 1
    ∷ 9 ∷ 9 ∷ []
unfolding answer_of answer_by within walk outer size_of param_rows param_entry big_endian bit_rows table_after table
cut-rows = refl

-- a table of 19 numbers: refusal 8, two rows are needed
few_rows : answer_of Answered text payload 19 ≡ refused 8 2
unfolding answer_of answer_by within walk outer size_of param_rows param_entry big_endian bit_rows
few_rows = refl

-- one byte: refusal 5
one_byte : answer_of Answered text (0x20 ∷ []) 22 ≡ refused 5 1
unfolding answer_of answer_by
one_byte = refl

-- no tab in line 1: refusal 1, before the payload's length
bad_line : answer_of Answered (81 ∷ 48 ∷ 10 ∷ []) [] 22 ≡ refused 1 1
unfolding answer_of
bad_line = refl

-- ---- bit children, a group whose members are counted in each repetition anew, a const's line
-- `Q|0|BYTE|Count|-|-/T|1|Odd/S|6|1|Pair/G|Group|0|3|0/Q|1|BYTE|Kind|-|-/Q|1|CONST|More|0|1/K|7|Seven/`
abbrev group_text : List ℕ
group_text =
    81 ∷ 9 ∷ 48 ∷ 9 ∷ 66 ∷ 89 ∷ 84 ∷ 69 ∷ 9 ∷ 67 ∷ 111 ∷ 117 ∷ 110 ∷ 116 ∷ 9 ∷ 45 ∷ 9 ∷ 45 ∷ 10 ∷ 84 ∷ 9 ∷ 49 ∷ 9
    ∷ 79 ∷ 100 ∷ 100 ∷ 10 ∷ 83 ∷ 9 ∷ 54 ∷ 9 ∷ 49 ∷ 9 ∷ 80 ∷ 97 ∷ 105 ∷ 114 ∷ 10 ∷ 71 ∷ 9 ∷ 71 ∷ 114 ∷ 111 ∷ 117
    ∷ 112 ∷ 9 ∷ 48 ∷ 9 ∷ 51 ∷ 9 ∷ 48 ∷ 10 ∷ 81 ∷ 9 ∷ 49 ∷ 9 ∷ 66 ∷ 89 ∷ 84 ∷ 69 ∷ 9 ∷ 75 ∷ 105 ∷ 110 ∷ 100 ∷ 9
    ∷ 45 ∷ 9 ∷ 45 ∷ 10 ∷ 81 ∷ 9 ∷ 49 ∷ 9 ∷ 67 ∷ 79 ∷ 78 ∷ 83 ∷ 84 ∷ 9 ∷ 77 ∷ 111 ∷ 114 ∷ 101 ∷ 9 ∷ 48 ∷ 9 ∷ 49
    ∷ 10 ∷ 75 ∷ 9 ∷ 55 ∷ 9 ∷ 83 ∷ 101 ∷ 118 ∷ 101 ∷ 110 ∷ 10 ∷ []

-- 20 01 02 01 07 04 CC: Count 2 with Odd 0 and Pair 1; Kind 1 and More 7 in the first repetition; Kind 4 alone in the second; remainder CC
group_rows : table_after Answered (definition group_text) (0x20 ∷ 0x01 ∷ 0x02 ∷ 0x01 ∷ 0x07 ∷ 0x04 ∷ 0xCC ∷ []) [] (answered 8 6)
    ≡ 0 ∷ 1 ∷ 0 ∷ 2 ∷ 3 ∷ 1 ∷ 2 ∷ 0 ∷ 0 ∷ 0
    ∷ 1 ∷ 2 ∷ 1 ∷ 2 ∷ 3 ∷ 1 ∷ 0 ∷ 0 ∷ 0 ∷ 0
    ∷ 1 ∷ 3 ∷ 1 ∷ 2 ∷ 3 ∷ 1 ∷ 1 ∷ 0 ∷ 0 ∷ 0
    ∷ 2 ∷ 4 ∷ 0 ∷ 3 ∷ 5 ∷ 0 ∷ 0 ∷ 0 ∷ 0 ∷ 0
    ∷ 0 ∷ 5 ∷ 4 ∷ 3 ∷ 4 ∷ 1 ∷ 1 ∷ 0 ∷ 0 ∷ 0
    ∷ 0 ∷ 6 ∷ 4 ∷ 4 ∷ 5 ∷ 1 ∷ 7 ∷ 7 ∷ 0 ∷ 0
    ∷ 2 ∷ 4 ∷ 0 ∷ 5 ∷ 6 ∷ 0 ∷ 0 ∷ 0 ∷ 1 ∷ 0
    ∷ 0 ∷ 5 ∷ 7 ∷ 5 ∷ 6 ∷ 1 ∷ 4 ∷ 0 ∷ 0 ∷ 0
    ∷ []
unfolding answer_of answer_by within walk outer group_at repeats repetitions repetition_row turn members size_of param_rows param_entry big_endian bit_rows table_after
    table
group_rows = refl

group_answer : answer_of Answered group_text (0x20 ∷ 0x01 ∷ 0x02 ∷ 0x01 ∷ 0x07 ∷ 0x04 ∷ 0xCC ∷ []) 80 ≡ answered 8 6
unfolding answer_of answer_by within walk outer group_at repeats repetitions repetition_row turn members size_of param_rows param_entry big_endian bit_rows
group_answer = refl
