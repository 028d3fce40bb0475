-- What is told of a field that isn't as its form wants it.
use Rattle.std.specs.Prelude.{ℕ, suc, ◌+◌, Bool, true, false, cond, ◌&&◌, List, [], ◌∷◌, length, leb, ltb, eqb}
use Rattle.text.specs.Text.{split, decimal, up_to, missing, optional_up_to, name, plain, path, optional_name, optional_path}
use Rattle.text.specs.Scan.{cut}
use Rattle.frame_text.specs.Form as frame
use Rattle.command_text.specs.Form as command
use Rattle.text_faults.specs.declared.fault.Want.{Want}
use Rattle.text_faults.specs.declared.fault.Want.TheVariants.{Number, OptionalNumber, Level, Name, Plain, OptionalName, Path, OptionalPath, Flags}
use Rattle.text_faults.specs.declared.fault.Want.TheVariants.{FrameType, CommandType}
use Rattle.text_faults.specs.declared.fault.Fault.{Fault}
use Rattle.text_faults.specs.declared.fault.Fault.TheVariants.{Right, Empty, Dash, NotDigit, LeadingZero, Over, TooLong, Unprintable, Dot, EmptyPart}
use Rattle.text_faults.specs.declared.fault.Fault.TheVariants.{DashPart, LongPart, NoType, NoFlags}

-- is a field as wanted: by the rules that both texts are checked by
abbrev pub right : Want → List ℕ → Bool
right (Number most) l = up_to most l
right (OptionalNumber most) l = optional_up_to most l
right Level l = decimal l
right Name l = name l
right Plain l = plain l
right OptionalName l = optional_name l
right Path l = path l
right OptionalPath l = optional_path l
right Flags l = frame.flags l
right FrameType l = frame.known (frame.type_of l)
right CommandType l = command.known (command.type_of l)

abbrev pub is_right : Fault → Bool
is_right Right = true
is_right Empty = false
is_right Dash = false
is_right (NotDigit at) = false
is_right LeadingZero = false
is_right Over = false
is_right TooLong = false
is_right (Unprintable at) = false
is_right (Dot at) = false
is_right (EmptyPart at) = false
is_right (DashPart at) = false
is_right (LongPart at) = false
is_right NoType = false
is_right NoFlags = false

-- where the first byte of l stands that isn't from lo to hi, or l's length where there is none
abbrev pub outside : ℕ → ℕ → List ℕ → ℕ
outside lo hi [] = 0
outside lo hi (x ∷ xs) = cond (leb lo x && leb x hi) (suc (outside lo hi xs)) 0

-- ---- why a field isn't as wanted, where it is neither empty nor `-`

-- a number: it is too great, or something else than a digit stands in it, or it is digits of which the first is 0
abbrev pub why_number : List ℕ → Fault
why_number l = cond (decimal l) Over (cond (ltb (outside 48 57 l) (length l)) (NotDigit (outside 48 57 l)) LeadingZero)

abbrev pub why_name : List ℕ → Fault
why_name l = cond (ltb 40 (length l)) TooLong (Unprintable (outside 0x20 0x7e l))

abbrev pub why_plain : List ℕ → Fault
why_plain l = cond (name l) (Dot (cut 0x2e l)) (why_name l)

-- the part of a path that begins at `at`
abbrev pub why_part : ℕ → List ℕ → Fault
why_part at l =
    cond (eqb (length l) 0) (EmptyPart at)
    (cond (missing l) (DashPart at)
    (cond (ltb 40 (length l)) (LongPart at) (Unprintable (at + outside 0x20 0x7e l))))

-- the first of the parts that isn't a name; the first of all begins at `at`
abbrev pub why_parts : ℕ → List (List ℕ) → Fault
why_parts at [] = EmptyPart at
why_parts at (p ∷ []) = why_part at p
why_parts at (p ∷ q ∷ ps) = cond (name p) (why_parts (at + length p + 1) (q ∷ ps)) (why_part at p)

abbrev pub why_path : List ℕ → Fault
why_path l = cond (ltb 120 (length l)) TooLong (why_parts 0 (split 0x2e l))

abbrev pub why : Want → List ℕ → Fault
why (Number most) l = why_number l
why (OptionalNumber most) l = why_number l
why Level l = why_number l
why Name l = why_name l
why Plain l = why_plain l
why OptionalName l = why_name l
why Path l = why_path l
why OptionalPath l = why_path l
why Flags l = NoFlags
why FrameType l = NoType
why CommandType l = NoType

-- what is told of a field
abbrev pub fault_of : Want → List ℕ → Fault
fault_of w l = cond (right w l) Right (cond (eqb (length l) 0) Empty (cond (missing l) Dash (why w l)))
