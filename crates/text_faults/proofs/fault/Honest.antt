-- A fault is told of a field exactly where the field isn't as wanted. Assumes nothing.
use mathlib.Core.Path.{◌≡◌, refl}
use mathlib.Core.Bool.{Bool, true, false, cond}
use mathlib.Core.List.{List, [], ◌∷◌}
use Prim.Native.Nat.{ℕ, ◌+◌}
use lib.Dec.{eqb, ltb}
use lib.ListN.{length}
use Rattle.text.specs.Text.{split, decimal, missing, name}
use Rattle.text.specs.Scan.{cut}
use Rattle.text_faults.specs.Fault.{right, is_right, outside, why_number, why_name, why_part, why_parts, why_path, why, fault_of}
use Rattle.text_faults.specs.declared.fault.Want.{Want}
use Rattle.text_faults.specs.declared.fault.Want.TheVariants.{Number, OptionalNumber, Level, Name, Plain, OptionalName, Path, OptionalPath, Flags}
use Rattle.text_faults.specs.declared.fault.Want.TheVariants.{FrameType, CommandType}
use Rattle.text_faults.specs.declared.fault.Fault.{Fault}
use Rattle.text_faults.specs.declared.fault.Fault.TheVariants.{Right, Empty, Dash, NotDigit, LeadingZero, Over, TooLong, Unprintable, Dot, EmptyPart}
use Rattle.text_faults.specs.declared.fault.Fault.TheVariants.{DashPart, LongPart}

-- of two faults that aren't none, neither is
neither : (b : Bool) (x y : Fault) → is_right x ≡ false → is_right y ≡ false → is_right (cond b x y) ≡ false
neither true x y p q = p
neither false x y p q = q

number_wrong : (l : List ℕ) → is_right (why_number l) ≡ false
number_wrong l = neither (decimal l) Over _ refl (neither (ltb (outside 48 57 l) (length l)) (NotDigit (outside 48 57 l)) LeadingZero refl refl)

name_wrong : (l : List ℕ) → is_right (why_name l) ≡ false
name_wrong l = neither (ltb 40 (length l)) TooLong (Unprintable (outside 0x20 0x7e l)) refl refl

part_wrong : (at : ℕ) (l : List ℕ) → is_right (why_part at l) ≡ false
part_wrong at l =
    neither (eqb (length l) 0) (EmptyPart at) _ refl
    (neither (missing l) (DashPart at) _ refl (neither (ltb 40 (length l)) (LongPart at) (Unprintable (at + outside 0x20 0x7e l)) refl refl))

parts_wrong : (at : ℕ) (ps : List (List ℕ)) → is_right (why_parts at ps) ≡ false
parts_wrong at [] = refl
parts_wrong at (p ∷ []) = part_wrong at p
parts_wrong at (p ∷ q ∷ ps) =
    neither (name p) (why_parts (at + length p + 1) (q ∷ ps)) (why_part at p) (parts_wrong (at + length p + 1) (q ∷ ps)) (part_wrong at p)

path_wrong : (l : List ℕ) → is_right (why_path l) ≡ false
path_wrong l = neither (ltb 120 (length l)) TooLong (why_parts 0 (split 0x2e l)) refl (parts_wrong 0 (split 0x2e l))

why_wrong : (w : Want) (l : List ℕ) → is_right (why w l) ≡ false
why_wrong (Number most) l = number_wrong l
why_wrong (OptionalNumber most) l = number_wrong l
why_wrong Level l = number_wrong l
why_wrong Name l = name_wrong l
why_wrong Plain l = neither (name l) (Dot (cut 0x2e l)) (why_name l) refl (name_wrong l)
why_wrong OptionalName l = name_wrong l
why_wrong Path l = path_wrong l
why_wrong OptionalPath l = path_wrong l
why_wrong Flags l = refl
why_wrong FrameType l = refl
why_wrong CommandType l = refl

pub told_exactly : (w : Want) (l : List ℕ) → is_right (fault_of w l) ≡ right w l
told_exactly w l = go (right w l)
  where
    go : (b : Bool) → is_right (cond b Right (cond (eqb (length l) 0) Empty (cond (missing l) Dash (why w l)))) ≡ b
    go true = refl
    go false = neither (eqb (length l) 0) Empty _ refl (neither (missing l) Dash (why w l) refl (why_wrong w l))
