-- Worked examples of what is told of a field.
use Rattle.std.specs.Prelude.{◌≡◌, refl, [], ◌∷◌}
use Rattle.text_faults.specs.Fault.{fault_of}
use Rattle.text_faults.specs.declared.fault.Want.TheVariants.{Number, OptionalNumber, Level, Name, Plain, Path, Flags, FrameType, CommandType}
use Rattle.text_faults.specs.declared.fault.Fault.TheVariants.{Right, Empty, Dash, NotDigit, LeadingZero, Over, Unprintable, Dot, EmptyPart}
use Rattle.text_faults.specs.declared.fault.Fault.TheVariants.{DashPart, NoType, NoFlags}

-- numbers to 255: 256, 07, 7x, nothing, `-`
over : fault_of (Number 255) (50 ∷ 53 ∷ 54 ∷ []) ≡ Over
over = refl

leading_zero : fault_of (Number 255) (48 ∷ 55 ∷ []) ≡ LeadingZero
leading_zero = refl

not_digit : fault_of (Number 255) (55 ∷ 120 ∷ []) ≡ NotDigit 1
not_digit = refl

empty : fault_of (Number 255) [] ≡ Empty
empty = refl

dash : fault_of (Number 255) (45 ∷ []) ≡ Dash
dash = refl

dash_allowed : fault_of (OptionalNumber 255) (45 ∷ []) ≡ Right
dash_allowed = refl

-- a level of 256 is a number: 2 refuses it
level : fault_of Level (50 ∷ 53 ∷ 54 ∷ []) ≡ Right
level = refl

-- names: a carriage return after `ab`, `a.b`
unprintable : fault_of Name (97 ∷ 98 ∷ 13 ∷ []) ≡ Unprintable 2
unprintable = refl

dot : fault_of Plain (97 ∷ 46 ∷ 98 ∷ []) ≡ Dot 1
dot = refl

-- paths: `a..b`, `a.-`, `ab.` and a tilde's neighbour 0x7F
empty-part : fault_of Path (97 ∷ 46 ∷ 46 ∷ 98 ∷ []) ≡ EmptyPart 2
empty-part = refl

dash-part : fault_of Path (97 ∷ 46 ∷ 45 ∷ []) ≡ DashPart 2
dash-part = refl

unprintable-part : fault_of Path (97 ∷ 98 ∷ 46 ∷ 99 ∷ 127 ∷ []) ≡ Unprintable 4
unprintable-part = refl

-- `0012`, `BYTE` as a type of the frame text, `BYTE` as one of the command text
flags : fault_of Flags (48 ∷ 48 ∷ 49 ∷ 50 ∷ []) ≡ NoFlags
flags = refl

frame_type : fault_of FrameType (66 ∷ 89 ∷ 84 ∷ 69 ∷ []) ≡ NoType
frame_type = refl

command_type : fault_of CommandType (66 ∷ 89 ∷ 84 ∷ 69 ∷ []) ≡ Right
command_type = refl
