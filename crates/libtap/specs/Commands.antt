-- The answers of the calls on a command as C has them.
use Rattle.std.specs.Prelude.{ℕ, Result, Ok, Err}
use Rattle.refusal.specs.Refusal.{number_of, carried_by}
use Rattle.command_rules.specs.declared.Row.{Row}
use Rattle.command.specs.Answer.{Told}
use Rattle.libtap.specs.declared.commands.TapParams.{TapParams}
use Rattle.libtap.specs.declared.commands.TapRow.{TapRow}
use Rattle.refusal.specs.declared.Refusal.{Refusal}

-- the numbers that it tells
unfoldable pub told_by : TapParams → Told
told_by r = record { refusal = r.refusal; carried = r.value; rows = r.rows; remainder = r.remainder }

-- ---- one row

-- the ten numbers of a row, behind a refusal's number and what it carries
abbrev pub row_told : ℕ → ℕ → Row → TapRow
row_told refusal carried r =
    record {
      refusal = refusal;
      carried = carried;
      kind = r.kind;
      line = r.line;
      parent = r.parent;
      start = r.start;
      end = r.end;
      valued = r.valued;
      value = r.value;
      named = r.named;
      number = r.number;
      lacking = r.lacking;
    }

-- where there is no row
abbrev pub no_row : Row
no_row = record { kind = 0; line = 0; parent = 0; start = 0; end = 0; valued = 0; value = 0; named = 0; number = 0; lacking = 0 }

-- the row, or the refusal's number and what it carries
abbrev pub told_row : Result Row Refusal → TapRow
told_row (Ok r) = row_told 0 0 r
told_row (Err x) = row_told (number_of x) (carried_by x) no_row
