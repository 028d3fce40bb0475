-- Laws of one row of a command as C has it. Assumes nothing.
use mathlib.Core.Path.{◌≡◌}
use mathlib.Core.Bool.{Bool}
use mathlib.Core.List.{List}
use Prim.Native.Nat.{ℕ}
use Rattle.refusal.specs.declared.Refusal.{Refusal}
use Rattle.refusal.specs.Refusal.{number_of, carried_by}
use Rattle.command_rules.specs.declared.Offsets.{Offsets}
use Rattle.command_rules.specs.declared.Row.{Row}
use Rattle.command.specs.Answer.{offsets_by}
use Rattle.command_row.specs.Answer.{row_of}
use Rattle.libtap.specs.declared.commands.TapRow.{TapRow}
use Rattle.libtap.specs.Commands.{row_told, no_row, told_row}
use Rattle.std.specs.Prelude.{Result, Ok, Err}

pub tells_row : (x : Result Row Refusal) (n : Row) (r : TapRow) → r ≡ row_told 0 0 n → x ≡ Ok n → r ≡ told_row x
tells_row x n r is e = rw e is

pub tells-no-row : (x : Result Row Refusal) (y : Refusal) (number carried : ℕ) (n : Row) (r : TapRow) → r ≡ row_told number carried n → n ≡ no_row
    → x ≡ Err y
    → number ≡ number_of y → carried ≡ carried_by y → r ≡ told_row x
tells-no-row x y number carried n r is none e is_number is_Carried = rw e (rw (is_number, is_Carried, none) at is)

pub tells_command_row : (position : Bool) (offsets : Offsets) (text payload : List ℕ) (k : ℕ) (x : Result Row Refusal) (r : TapRow)
    → x ≡ row_of offsets text payload k
    → offsets ≡ offsets_by position → r ≡ told_row x → r ≡ told_row (row_of (offsets_by position) text payload k)
tells_command_row position offsets text payload k x r is e is-r = rw (← e, ← is) is-r

pub ruleset row_laws = (tells_row, tells-no-row, tells_command_row)
