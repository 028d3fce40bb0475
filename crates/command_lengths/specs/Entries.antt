-- How the code's numbers are read: the entries already answered, and a number that may be missing.
use Rattle.std.specs.Prelude.{ℕ, cond, List, map, eqb, ltb, Option, Some, None}
use Rattle.command_class.specs.Find.{no_number}
use Rattle.command_rules.specs.declared.Earlier.{Earlier}
use Rattle.command_rules.specs.declared.Earlier.TheVariants.{Value, NoValue, NoEntry}

-- how an entry without value is kept
abbrev pub no_value : ℕ
no_value = 256

-- how one is kept that no offset finds
abbrev pub no_entry : ℕ
no_entry = 257

-- an entry with a value is kept as the low byte of it
abbrev pub earlier : ℕ → Earlier
earlier n = cond (ltb n no_value) (Value n) (cond (eqb n no_value) NoValue NoEntry)

abbrev pub entries : List ℕ → List Earlier
entries ns = map earlier ns

-- a number of 0 to 255 that may be missing
abbrev pub given : ℕ → Option ℕ
given n = cond (ltb n no_number) (Some n) None
