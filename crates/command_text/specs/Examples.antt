-- Worked examples of the verdict. In the comments `|` is a tab and `/` a line end.
use Rattle.std.specs.Prelude.{◌≡◌, refl, [], ◌∷◌, Ok, Err}
use Rattle.refusal.specs.declared.Refusal.TheVariants.{Form, Owner}
use Rattle.command_text.specs.Rules.{verdict}

-- no line
nothing : verdict [] ≡ Ok tt
nothing = refl

-- a BYTE, and a VARIANT with an R: `Q|0|BYTE|n|-|-/Q|0|VARIANT|v|-|-/R|0|7|0|0/`
example : verdict (81 ∷ 9 ∷ 48 ∷ 9 ∷ 66 ∷ 89 ∷ 84 ∷ 69 ∷ 9 ∷ 110 ∷ 9 ∷ 45 ∷ 9 ∷ 45 ∷ 10 ∷ 81 ∷ 9 ∷ 48 ∷ 9 ∷ 86 ∷ 65
    ∷ 82 ∷ 73 ∷ 65 ∷ 78 ∷ 84 ∷ 9 ∷ 118 ∷ 9 ∷ 45 ∷ 9 ∷ 45 ∷ 10 ∷ 82 ∷ 9 ∷ 48 ∷ 9 ∷ 55 ∷ 9 ∷ 48 ∷ 9 ∷ 48 ∷ 10
    ∷ []) ≡ Ok tt
example = refl

-- a missing shift: `Q|0|VARIANT|v|-|-/R|0|7|-|0/`
shift-missing : verdict (81 ∷ 9 ∷ 48 ∷ 9 ∷ 86 ∷ 65 ∷ 82 ∷ 73 ∷ 65 ∷ 78 ∷ 84 ∷ 9 ∷ 118 ∷ 9 ∷ 45 ∷ 9 ∷ 45 ∷ 10 ∷ 82 ∷ 9
    ∷ 48 ∷ 9 ∷ 55 ∷ 9 ∷ 45 ∷ 9 ∷ 48 ∷ 10 ∷ []) ≡ Ok tt
shift-missing = refl

-- `Q|0|VARIANT|v|-|-/R|0|7|8|0/`
shift_8 : verdict (81 ∷ 9 ∷ 48 ∷ 9 ∷ 86 ∷ 65 ∷ 82 ∷ 73 ∷ 65 ∷ 78 ∷ 84 ∷ 9 ∷ 118 ∷ 9 ∷ 45 ∷ 9 ∷ 45 ∷ 10 ∷ 82 ∷ 9 ∷ 48
    ∷ 9 ∷ 55 ∷ 9 ∷ 56 ∷ 9 ∷ 48 ∷ 10 ∷ []) ≡ Err (Owner 2)
shift_8 = refl

-- `Q|0|VARIANT|v|-|-/R|0|7|256|0/`
shift_256 : verdict (81 ∷ 9 ∷ 48 ∷ 9 ∷ 86 ∷ 65 ∷ 82 ∷ 73 ∷ 65 ∷ 78 ∷ 84 ∷ 9 ∷ 118 ∷ 9 ∷ 45 ∷ 9 ∷ 45 ∷ 10 ∷ 82 ∷ 9 ∷ 48
    ∷ 9 ∷ 55 ∷ 9 ∷ 50 ∷ 53 ∷ 54 ∷ 9 ∷ 48 ∷ 10 ∷ []) ≡ Err (Form 2)
shift_256 = refl

-- `G|g|0|7|-/`
group_shift : verdict (71 ∷ 9 ∷ 103 ∷ 9 ∷ 48 ∷ 9 ∷ 55 ∷ 9 ∷ 45 ∷ 10 ∷ []) ≡ Err (Form 1)
group_shift = refl

-- `G|g|0|7|8/`
group_shift_8 : verdict (71 ∷ 9 ∷ 103 ∷ 9 ∷ 48 ∷ 9 ∷ 55 ∷ 9 ∷ 56 ∷ 10 ∷ []) ≡ Err (Owner 1)
group_shift_8 = refl

-- a member of a group: `G|g|0|7|0/Q|1|BYTE|m|-|-/`
member : verdict (71 ∷ 9 ∷ 103 ∷ 9 ∷ 48 ∷ 9 ∷ 55 ∷ 9 ∷ 48 ∷ 10 ∷ 81 ∷ 9 ∷ 49 ∷ 9 ∷ 66 ∷ 89 ∷ 84 ∷ 69 ∷ 9 ∷ 109 ∷ 9
    ∷ 45 ∷ 9 ∷ 45 ∷ 10 ∷ []) ≡ Ok tt
member = refl

-- a level 1 Q without a G: `Q|1|BYTE|m|-|-/`
no_group : verdict (81 ∷ 9 ∷ 49 ∷ 9 ∷ 66 ∷ 89 ∷ 84 ∷ 69 ∷ 9 ∷ 109 ∷ 9 ∷ 45 ∷ 9 ∷ 45 ∷ 10 ∷ []) ≡ Err (Owner 1)
no_group = refl

-- a level 0 Q ends a group: `G|g|0|7|0/Q|0|BYTE|m|-|-/Q|1|BYTE|m|-|-/`
group_ended : verdict (71 ∷ 9 ∷ 103 ∷ 9 ∷ 48 ∷ 9 ∷ 55 ∷ 9 ∷ 48 ∷ 10 ∷ 81 ∷ 9 ∷ 48 ∷ 9 ∷ 66 ∷ 89 ∷ 84 ∷ 69 ∷ 9 ∷ 109
    ∷ 9 ∷ 45 ∷ 9 ∷ 45 ∷ 10 ∷ 81 ∷ 9 ∷ 49 ∷ 9 ∷ 66 ∷ 89 ∷ 84 ∷ 69 ∷ 9 ∷ 109 ∷ 9 ∷ 45 ∷ 9 ∷ 45 ∷ 10 ∷ [])
    ≡ Err (Owner 3)
group_ended = refl

-- a G owns no item line: `G|g|0|7|0/K|1|x/`
item-under_g : verdict (71 ∷ 9 ∷ 103 ∷ 9 ∷ 48 ∷ 9 ∷ 55 ∷ 9 ∷ 48 ∷ 10 ∷ 75 ∷ 9 ∷ 49 ∷ 9 ∷ 120 ∷ 10 ∷ []) ≡ Err (Owner 2)
item-under_g = refl

-- `Q|2|BYTE|m|-|-/`
level_2 : verdict (81 ∷ 9 ∷ 50 ∷ 9 ∷ 66 ∷ 89 ∷ 84 ∷ 69 ∷ 9 ∷ 109 ∷ 9 ∷ 45 ∷ 9 ∷ 45 ∷ 10 ∷ []) ≡ Err (Form 1)
level_2 = refl

-- an M with no length: `Q|0|BITMASK|m|-|-/M|-/`
no_length : verdict (81 ∷ 9 ∷ 48 ∷ 9 ∷ 66 ∷ 73 ∷ 84 ∷ 77 ∷ 65 ∷ 83 ∷ 75 ∷ 9 ∷ 109 ∷ 9 ∷ 45 ∷ 9 ∷ 45 ∷ 10 ∷ 77 ∷ 9 ∷ 45
    ∷ 10 ∷ []) ≡ Ok tt
no_length = refl

-- the last line is not ended: `Q|0|BYTE|m|-|-`
not-ended : verdict (81 ∷ 9 ∷ 48 ∷ 9 ∷ 66 ∷ 89 ∷ 84 ∷ 69 ∷ 9 ∷ 109 ∷ 9 ∷ 45 ∷ 9 ∷ 45 ∷ []) ≡ Err (Form 1)
not-ended = refl
