-- What is told of a line that is refused by 2 or 3.
use Rattle.std.specs.Prelude.{ℕ, Bool, cond, not, List, eqb}
use Rattle.text.specs.Text.{field, up_to, missing, optional_up_to}
use Rattle.text.specs.Place.{kind_of}
use Rattle.text_faults.specs.declared.placement.Misplaced.{Misplaced}
use Rattle.text_faults.specs.declared.placement.Misplaced.TheVariants.{Owner, Parent, SizePath, Shift}

-- a P's level is over 7
abbrev pub too_deep : List (List ℕ) → Bool
too_deep fs = not (up_to 7 (field 1 fs))

-- a line of a frame text: a P of level 0 lacks its B or H, one of another level its parent, unless it has a size path; V and E lack their owner
abbrev pub frame_misplaced : List (List ℕ) → Misplaced
frame_misplaced fs = cond (eqb (kind_of fs) 0x50) (cond (up_to 0 (field 1 fs)) Owner (cond (missing (field 8 fs)) Parent SizePath)) Owner

-- the field of a line that is a shift: G, R, S, U; else 0
abbrev pub shift_field : ℕ → ℕ
shift_field c = cond (eqb c 0x47) 4 (cond (eqb c 0x52) 3 (cond (eqb c 0x53) 2 (cond (eqb c 0x55) 2 0)))

-- a line of a command text: its shift is over 7, or it lacks its Q or G
abbrev pub command_misplaced : List (List ℕ) → Misplaced
command_misplaced fs = cond (eqb (shift_field (kind_of fs)) 0) Owner (cond (optional_up_to 7 (field (shift_field (kind_of fs)) fs)) Owner Shift)
