-- What limits and owners look at in a line: its form, and a level or a shift. And in which parts its types are told apart.
use Rattle.std.specs.Prelude.{Bool, cond, List, drop, Option, Some, None}
use Rattle.command_kept.specs.declared.Form.{Form}
use Rattle.command_kept.specs.declared.Form.TheVariants.{Param, Group, Item}
use Rattle.command_text.specs.declared.ParamType.{ParamType}
use Rattle.command_text.specs.Form.{types, Record, param, group, item}
use Rattle.command_text.specs.Rules.{shift_in}

-- the form if the line has it
abbrev pub tagged : Bool → Form → Option Form
tagged good form = cond good (Some form) None

-- what limits and owners look at in a record
abbrev pub shape : Option Record → Option Form
shape None = None
shape (Some (param q)) = Some (Param q.level)
shape (Some (group g)) = Some (Group g.shift)
shape (Some (item d)) = Some (Item (shift_in d))

-- the types behind the first four, which are told apart by a function of their own
abbrev pub late_types : List ParamType
late_types = drop 4 types

-- and of those the last three
abbrev pub last_types : List ParamType
last_types = drop 8 types
