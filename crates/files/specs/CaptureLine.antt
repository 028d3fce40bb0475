-- What a character makes of a line of a capture.
use Rattle.std.specs.Prelude.{ℕ, ◌+◌, ◌-◌, ◌*◌, ◌%◌, ◌^◌, ◌<◌, Bool, true, false, cond, ◌&&◌, ◌||◌, List, ◌==◌, nat_le, slice_set, Option, Some, None, Result, Ok, Err}
use Rattle.files.specs.declared.capture_line.State.{State}
use Rattle.files.specs.declared.capture_line.State.TheVariants.{Raw, Bytes, Half, Comment, Wrong}
use Rattle.files.specs.declared.capture_line.Step.{Step}
use Rattle.files.specs.declared.capture_line.Step.TheVariants.{To, Byte}
use Rattle.files.specs.declared.capture_line.Line.{Line}

-- ---- a character

-- what a hex digit is worth: 0 to 9, A to F or a to f
abbrev pub digit_of : ℕ → Option ℕ
digit_of b =
    cond (nat_le 48 b && nat_le b 57) (Some (b - 48)) (cond (nat_le 65 b && nat_le b 70) (Some (b - 65 + 10)) (cond (nat_le 97 b && nat_le b 102) (Some (b - 97 + 10)) None))

-- the first digit of a byte, or something else in this column
abbrev pub first_by : Option ℕ → ℕ → Step
first_by (Some d) column = To (Half d)
first_by None column = To (Wrong column)

-- the second digit of a byte whose first is worth d
abbrev pub second_by : ℕ → Option ℕ → ℕ → Step
second_by d (Some e) column = Byte (d * 16 + e)
second_by d None column = To (Wrong column)

-- is it a space, a tab or a carriage return
abbrev pub blank : ℕ → Bool
blank b = b == 32 || (b == 9 || b == 13)

-- a character behind a state, in this column
abbrev pub step_of : State → ℕ → ℕ → Step
step_of Raw b column = Byte b
step_of Bytes b column = cond (blank b) (To Bytes) (cond (b == 35) (To Comment) (first_by (digit_of b) column))
step_of (Half d) b column = second_by d (digit_of b) column
step_of Comment b column = To Comment
step_of (Wrong at) b column = To (Wrong at)

-- the first digit of a byte is one
abbrev pub Fair : State → Type 0
Fair (Half d) = d < 16
Fair Raw = Unit {0}
Fair Bytes = Unit {0}
Fair Comment = Unit {0}
Fair (Wrong at) = Unit {0}

abbrev pub FairStep : Step → Type 0
FairStep (To s) = Fair s
FairStep (Byte b) = Unit {0}

-- ---- a line

-- at its start: of a raw capture, or of hex text
abbrev pub start_of : Bool → Line
start_of true = record { state = Raw; count = 0; column = 1 }
start_of false = record { state = Bytes; count = 0; column = 1 }

-- the state behind a whole byte
abbrev pub state_behind : State → State
state_behind Raw = Raw
state_behind Bytes = Bytes
state_behind (Half d) = Bytes
state_behind Comment = Bytes
state_behind (Wrong at) = Bytes

abbrev pub line_by : Step → Line → Line
line_by (To s) l = record { state = s; count = l.count; column = (l.column + 1) % 2 ^ 64 }
line_by (Byte b) l = record { state = state_behind l.state; count = (l.count + 1) % 2 ^ 64; column = (l.column + 1) % 2 ^ 64 }

-- byte n of a payload, if there is room for it
abbrev pub payload_by : Step → ℕ → List ℕ → List ℕ
payload_by (To s) n payload = payload
payload_by (Byte b) n payload = slice_set payload n b

-- does a character end a line in a state
abbrev pub ends_by : State → ℕ → Bool
ends_by Raw b = false
ends_by Bytes b = b == 10
ends_by (Half d) b = b == 10
ends_by Comment b = b == 10
ends_by (Wrong at) b = b == 10

-- what a line comes to: so many bytes, or a column with no hex digit where one belongs
abbrev pub content_by : State → ℕ → ℕ → Result ℕ ℕ
content_by Raw count column = Ok count
content_by Bytes count column = Ok count
content_by (Half d) count column = Err column
content_by Comment count column = Ok count
content_by (Wrong at) count column = Err at
