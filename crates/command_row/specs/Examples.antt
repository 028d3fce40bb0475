-- The rows of E11 (docs/RULES.md) one by one, and what is refused.
use Rattle.std.specs.Prelude.{◌≡◌, refl, [], ◌∷◌, Ok, Err}
use Rattle.refusal.specs.declared.Refusal.TheVariants.{Form, TooShort, NoSuchField}
use Rattle.command_rules.specs.Lengths.{size_of}
use Rattle.command_rules.specs.Param.{big_endian, bit_rows, param_rows, param_entry}
use Rattle.command_rules.specs.Walk.{outer, walk}
use Rattle.command_rules.specs.declared.Offsets.TheVariants.{Answered}
use Rattle.command.specs.Examples.{text, payload}
use Rattle.command_row.specs.Answer.{row_by, row_of}

-- Length, whose value is 2
first : row_of Answered text payload 0
    ≡ Ok (record { kind = 0; line = 1; parent = 0; start = 2; end = 3; valued = 1; value = 2; named = 0; number = 0; lacking = 0 })
unfolding row_of row_by walk outer size_of param_rows param_entry big_endian bit_rows
first = refl

-- Data, two bytes
second : row_of Answered text payload 1
    ≡ Ok (record { kind = 0; line = 2; parent = 0; start = 3; end = 5; valued = 1; value = 0xAABB; named = 0; number = 0; lacking = 0 })
unfolding row_of row_by walk outer size_of param_rows param_entry big_endian bit_rows
second = refl

-- no third row: 11 carries the number that was asked for
third : row_of Answered text payload 2 ≡ Err (NoSuchField 2)
unfolding row_of row_by walk outer size_of param_rows param_entry big_endian bit_rows
third = refl

-- one byte: 5 comes before 11
one_byte : row_of Answered text (0x20 ∷ []) 7 ≡ Err (TooShort 1)
unfolding row_of row_by
one_byte = refl

-- no tab in line 1: 1 comes before 5
bad_line : row_of Answered (81 ∷ 48 ∷ 10 ∷ []) [] 7 ≡ Err (Form 1)
unfolding row_of
bad_line = refl
