-- T31 to T33 (docs/RULES.md), as the code goes by them: what it keeps of the lines before, and how it judges a line by that.
use Rattle.std.specs.Prelude.{ℕ, ◌+◌, Bool, true, false, cond, leb, ltb, eqb, Option, Some, None, Result, Ok, Err}
use Rattle.command_kept.specs.declared.Form.{Form}
use Rattle.command_kept.specs.declared.Form.TheVariants.{Param, Group, Item}
use Rattle.command_kept.specs.declared.Kept.{Kept}
use Rattle.text.specs.declared.Misfit.{Misfit}
use Rattle.text.specs.declared.Misfit.TheVariants.{Passed, Lost, Wrong}

-- before the first line
abbrev pub nothing : Kept
nothing = record { count = 0; owned = false; grouped = false; items = 0 }

-- are there as many Q and G lines as may be
abbrev pub full : Kept → Bool
full k = leb 256 k.count

-- is a shift over 7
abbrev pub far : ℕ → Bool
far shift = ltb 7 shift

-- after a Q or G
abbrev pub begun : Kept → Bool → Bool → Kept
begun k owned grouped = record { count = k.count + 1; owned = owned; grouped = grouped; items = 0 }

abbrev pub judged_param : Kept → ℕ → Result Kept Misfit
judged_param k level =
    cond (full k) (Err Passed)
    (cond (eqb level 1) (cond k.grouped (Ok (begun k true true)) (Err Lost)) (Ok (begun k true false)))

abbrev pub judged_group : Kept → ℕ → Result Kept Misfit
judged_group k shift =
    cond (full k) (Err Passed)
    (cond (far shift) (Err Lost) (Ok (begun k false true)))

abbrev pub judged_item : Kept → ℕ → Result Kept Misfit
judged_item k shift =
    cond k.owned
    (cond (leb 32 k.items) (Err Passed)
    (cond (far shift) (Err Lost)
    (Ok (record { count = k.count; owned = k.owned; grouped = k.grouped; items = k.items + 1 }))))
    (Err Lost)

-- the judgement on a line: what is kept after it, or what is wrong with it
abbrev pub judged : Kept → Option Form → Result Kept Misfit
judged k (Some (Param level)) = judged_param k level
judged k (Some (Group shift)) = judged_group k shift
judged k (Some (Item shift)) = judged_item k shift
judged k None = Err Wrong
