-- BM5 (docs/RULES.md): one row of a command, by its number.
use Rattle.std.specs.Prelude.{ℕ, ◌-◌, cond, List, [], ◌∷◌, ltb, length, take, drop, Result, Ok, Err}
use Rattle.refusal.specs.Refusal.{most_frame}
use Rattle.refusal.specs.declared.Refusal.TheVariants.{TooLong, TooShort, NoSuchField}
use Rattle.command_text.specs.Rules.{verdict}
use Rattle.command_class.specs.Definition.{Entry, definition}
use Rattle.command_rules.specs.declared.Offsets.{Offsets}
use Rattle.command_rules.specs.declared.Row.{Row as Numbers}
use Rattle.command_rules.specs.Walk.{walk}
use Rattle.command.specs.Answer.{body_of}
use Rattle.command_rules.specs.declared.Row.{Row}
use Rattle.refusal.specs.declared.Refusal.{Refusal}

-- the first of the rows from number k on; where there is none, 11 carries k
abbrev pub first_from : ℕ → List Numbers → Result Row Refusal
first_from k [] = Err (NoSuchField k)
first_from k (r ∷ rs) = Ok r

-- BM5: the row of number k, of these
abbrev pub nth : ℕ → List Numbers → Result Row Refusal
nth k rs = first_from k (drop k rs)

-- BM5, R4, R5: of the rows that the walk gives by a definition
unfoldable pub row_by : Offsets → List Entry → List ℕ → ℕ → Result Row Refusal
row_by offsets ds payload k =
    cond (ltb most_frame (length payload)) (Err (TooLong (length payload)))
    (cond (ltb (length payload) 2) (Err (TooShort (length payload)))
    (nth k (walk offsets (body_of payload) ds).rows))

-- R10, R11: 1 to 3 come first
abbrev pub on_verdict : Result (Unit {0}) Refusal → Result Row Refusal → Result Row Refusal
on_verdict (Ok tt) found = found
on_verdict (Err x) found = Err x

-- BM5: what `command_row` answers
unfoldable pub row_of : Offsets → List ℕ → List ℕ → ℕ → Result Row Refusal
row_of offsets t payload k = on_verdict (verdict t) (row_by offsets (definition t) payload k)

-- BM2, VT2: the bytes of the payload that a row names, end excluded
abbrev pub bytes_of : List ℕ → Numbers → List ℕ
bytes_of payload r = take (r.end - r.start) (drop r.start payload)
