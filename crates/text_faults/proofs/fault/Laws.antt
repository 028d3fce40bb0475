-- The laws that the proofs of this crate's functions go by. Assumes nothing.
use mathlib.Core.Path.{◌≡◌, refl, sym, ap, ◌∙◌}
use mathlib.Core.Bool.{Bool, true, false, cond}
use mathlib.Core.List.{List, [], ◌∷◌}
use Prim.Native.Nat.{ℕ, ◌+◌, ◌-◌, ◌≤◌, ◌<◌, ◌^◌}
use native.Mathlib.Omega.{arith}
use lib.ListN.{length, get_or, take, drop, length-drop}
use lib.Seq.{drop-drop, length-take-le}
use borrow.Author.Tests.{le-leb, lt-leb, le-ltb, lt-ltb, eq-eqb, ne_eqb}
use Rattle.text.specs.Text.{split, decimal, up_to, missing, optional_up_to, name, plain, path, optional_name, optional_path}
use Rattle.text.specs.Scan.{cut}
use Rattle.text.proofs.Laws.{next, done, tail, split-last, split-more}
use Rattle.text.proofs.Judging.{split_some}
use Rattle.frame_text.specs.Form as frame
use Rattle.command_text.specs.Form as command
use Rattle.text_faults.specs.Fault.{right, outside, why_number, why_name, why_plain, why_part, why_parts, why_path, why, fault_of}
use Rattle.text_faults.specs.declared.fault.Want.{Want}
use Rattle.text_faults.specs.declared.fault.Want.TheVariants.{Number, OptionalNumber, Level, Name, Plain, OptionalName, Path, OptionalPath, Flags}
use Rattle.text_faults.specs.declared.fault.Want.TheVariants.{FrameType, CommandType}
use Rattle.text_faults.specs.declared.fault.Fault.{Fault}
use Rattle.text_faults.specs.declared.fault.Fault.TheVariants.{Right, Empty, Dash, NotDigit, LeadingZero, Over, TooLong, Unprintable, Dot, EmptyPart}
use Rattle.text_faults.specs.declared.fault.Fault.TheVariants.{DashPart, LongPart, NoType, NoFlags}

-- ---- the first byte out of bounds
module _ (lo hi : ℕ) (s : List ℕ) (i : ℕ) (inv : outside lo hi s ≡ i + outside lo hi (drop i s)) where
  pub outside_low : i < length s → get_or s i 0 < lo → i ≡ outside lo hi s
  outside_low h l = rw (inv, next s i h, lt-leb _ _ l) (omega arith)

  pub outside_high : i < length s → lo ≤ get_or s i 0 → hi < get_or s i 0 → i ≡ outside lo hi s
  outside_high h l u = rw (inv, next s i h, le-leb _ _ l, lt-leb _ _ u) (omega arith)

  pub outside-more : i < length s → lo ≤ get_or s i 0 → get_or s i 0 ≤ hi → outside lo hi s ≡ i + 1 + outside lo hi (drop (i + 1) s)
  outside-more h l u = rw (inv, next s i h, le-leb _ _ l, le-leb _ _ u) (omega arith)

  pub outside_done : i ≤ length s → length s ≤ i → i ≡ outside lo hi s
  outside_done l h = rw (inv, done s i h) (omega arith)

pub ruleset outside_laws = (outside_low, outside_high, outside-more, outside_done)

-- ---- is a field as wanted
module _ (w : Want) (s : List ℕ) (r : Bool) where
  pub right-number : (most : ℕ) → w ≡ Number most → r ≡ up_to most s → r ≡ right w s
  right-number most e h = rw e h

  pub right-optional-number : (most : ℕ) → w ≡ OptionalNumber most → r ≡ optional_up_to most s → r ≡ right w s
  right-optional-number most e h = rw e h

  pub right-level : w ≡ Level → r ≡ decimal s → r ≡ right w s
  right-level e h = rw e h

  pub right-name : w ≡ Name → r ≡ name s → r ≡ right w s
  right-name e h = rw e h

  pub right-plain : w ≡ Plain → r ≡ plain s → r ≡ right w s
  right-plain e h = rw e h

  pub right-optional-name : w ≡ OptionalName → r ≡ optional_name s → r ≡ right w s
  right-optional-name e h = rw e h

  pub right-path : w ≡ Path → r ≡ path s → r ≡ right w s
  right-path e h = rw e h

  pub right-optional-path : w ≡ OptionalPath → r ≡ optional_path s → r ≡ right w s
  right-optional-path e h = rw e h

  pub right-flags : w ≡ Flags → r ≡ frame.flags s → r ≡ right w s
  right-flags e h = rw e h

  pub right_frame_type : w ≡ FrameType → r ≡ frame.known (frame.type_of s) → r ≡ right w s
  right_frame_type e h = rw e h

  pub right_command_type : w ≡ CommandType → r ≡ command.known (command.type_of s) → r ≡ right w s
  right_command_type e h = rw e h

pub ruleset right_laws = (
  right-number,
  right-optional-number,
  right-level,
  right-name,
  right-plain,
  right-optional-name,
  right-path,
  right-optional-path,
  right-flags,
  right_frame_type,
  right_command_type,
)

-- ---- why not
module _ (s : List ℕ) (b : Bool) (is : b ≡ decimal s) where
  pub number-over : b ≡ true → Over ≡ why_number s
  number-over e = rw (← is, e)

  module _ (at : ℕ) (first : at ≡ outside 48 57 s) (none : b ≡ false) where
    pub number_stray : at < length s → NotDigit at ≡ why_number s
    number_stray h = rw (← is, none, ← first, lt-ltb _ _ h)

    pub number-lead : length s ≤ at → LeadingZero ≡ why_number s
    number-lead h = rw (← is, none, ← first, le-ltb _ _ h)

pub name-long : (s : List ℕ) → 40 < length s → TooLong ≡ why_name s
name-long s h = rw (lt-ltb _ _ h)

pub name_byte : (s : List ℕ) (at : ℕ) → at ≡ outside 0x20 0x7e s → length s ≤ 40 → Unprintable at ≡ why_name s
name_byte s at e h = rw (le-ltb _ _ h, e)

module _ (s : List ℕ) (b : Bool) (is : b ≡ name s) where
  pub plain-dot : (at : ℕ) → at ≡ cut 46 s → b ≡ true → Dot at ≡ why_plain s
  plain-dot at f e = rw (← is, e, f)

  pub plain-name : (r : Fault) → b ≡ false → r ≡ why_name s → r ≡ why_plain s
  plain-name r e h = rw (← is, e) h

-- a part of a path
pub part-empty : (s : List ℕ) (at : ℕ) → length s ≡ 0 → EmptyPart at ≡ why_part at s
part-empty s at h = rw (eq-eqb _ _ h)

module _ (s : List ℕ) (at : ℕ) (some : length s ≡ 0 → ⊥) (b : Bool) (is : b ≡ missing s) where
  pub part-dash : b ≡ true → DashPart at ≡ why_part at s
  part-dash e = rw (ne_eqb _ _ some, ← is, e)

  pub part-long : b ≡ false → 40 < length s → LongPart at ≡ why_part at s
  part-long e h = rw (ne_eqb _ _ some, ← is, e, lt-ltb _ _ h)

  pub part_byte : (k : ℕ) → k ≡ outside 0x20 0x7e s → b ≡ false → length s ≤ 40 → Unprintable (at + k) ≡ why_part at s
  part_byte k f e h = rw (ne_eqb _ _ some, ← is, e, le-ltb _ _ h, f)

-- the parts of a path
parts_more : (at : ℕ) (p : List ℕ) (ps : List (List ℕ)) → (ps ≡ [] → ⊥)
    → why_parts at (p ∷ ps) ≡ cond (name p) (why_parts (at + length p + 1) ps) (why_part at p)
parts_more at p [] h = absurd (h refl)
parts_more at p (q ∷ ps) h = refl

module _ (s : List ℕ) (at e : ℕ) (inv : why_parts 0 (split 46 s) ≡ why_parts at (split 46 (drop at s)))
    (at-e : e ≡ cut 46 (take (length s - at) (drop at s))) where
  pub parts_last : (r : Fault) → e ≡ length (take (length s - at) (drop at s)) → r ≡ why_part at (take (length s - at) (drop at s))
      → r ≡ why_parts 0 (split 46 s)
  parts_last r l h =
      let p : split 46 (drop at s) ≡ drop at s ∷ [] = split-last 46 (drop at s) (rw tail at (sym at-e ∙ l)) in
      rw (inv, p) (rw tail at h)

  module _ (in_e : e ≤ length (take (length s - at) (drop at s))) (not_end : e ≡ length (take (length s - at) (drop at s)) → ⊥) (b : Bool)
      (n : b ≡ name (take e (take (length s - at) (drop at s)))) where
    inside : e < length (drop at s)
    inside = let v : e < length (take (length s - at) (drop at s)) = omega (arith, not_end) in rw tail at v

    parted : split 46 (drop at s) ≡ take e (drop at s) ∷ split 46 (drop (e + 1) (drop at s))
    parted = let f : e ≡ cut 46 (drop at s) = rw tail at at-e in rw f (split-more 46 (drop at s) (rw (← f) inside))

    named : b ≡ name (take e (drop at s))
    named = rw tail at n

    decides : why_parts 0 (split 46 s) ≡ cond b (why_parts (at + length (take e (drop at s)) + 1) (split 46 (drop (e + 1) (drop at s))))
        (why_part at (take e (drop at s)))
    decides = inv ∙ ap (why_parts at) parted ∙ parts_more at (take e (drop at s)) (split 46 (drop (e + 1) (drop at s)))
        (split_some 46 (drop (e + 1) (drop at s))) ∙ rw (← named)

    pub parts-not : (r : Fault) → b ≡ false → r ≡ why_part at (take e (take (length s - at) (drop at s))) → r ≡ why_parts 0 (split 46 s)
    parts-not r f h = rw (decides, f) (rw tail at h)

    pub parts-more-on : b ≡ true → why_parts 0 (split 46 s) ≡ why_parts (at + e + 1) (split 46 (drop (at + e + 1) s))
    parts-more-on f =
        let z : at + e + 1 ≡ at + (e + 1) = omega arith in
        let c : length (take e (drop at s)) ≡ e = length-take-le e (drop at s) (omega (arith, inside)) in
        let d : drop (e + 1) (drop at s) ≡ drop (at + e + 1) s = rw (z, ← drop-drop (e + 1) at s) in
        rw (decides, f, c, d)

    pub parts-inside : at + e + 1 ≤ length s
    parts-inside = let v : e < length s - at = rw length-drop at inside in omega arith

-- the place of a part and its length make a number
pub part_room : (s : List ℕ) (at e : ℕ) → at ≤ length s → e ≤ length (take (length s - at) (drop at s)) → length s < 2 ^ 64
    → at + length (take e (take (length s - at) (drop at s))) < 2 ^ 64
part_room s at e h l f =
    let c : length (take e (take (length s - at) (drop at s))) ≡ e = length-take-le e (take (length s - at) (drop at s)) l in
    let v : e ≤ length s - at = rw (tail, length-drop) at l in
    rw c (omega arith)

pub path-long : (s : List ℕ) → 120 < length s → TooLong ≡ why_path s
path-long s h = rw (lt-ltb _ _ h)

pub path-parts : (s : List ℕ) (r : Fault) → length s ≤ 120 → r ≡ why_parts 0 (split 46 s) → r ≡ why_path s
path-parts s r h e = rw (le-ltb _ _ h) e

pub ruleset part_laws = (part-empty, part-dash, part-long, part_byte, parts_last, parts-not, parts-more-on, parts-inside, part_room, path-long, path-parts)

-- by what is wanted
module _ (w : Want) (s : List ℕ) (r : Fault) where
  pub why-number : (most : ℕ) → w ≡ Number most → r ≡ why_number s → r ≡ why w s
  why-number most e h = rw e h

  pub why-optional-number : (most : ℕ) → w ≡ OptionalNumber most → r ≡ why_number s → r ≡ why w s
  why-optional-number most e h = rw e h

  pub why-level : w ≡ Level → r ≡ why_number s → r ≡ why w s
  why-level e h = rw e h

  pub why-name : w ≡ Name → r ≡ why_name s → r ≡ why w s
  why-name e h = rw e h

  pub why-plain : w ≡ Plain → r ≡ why_plain s → r ≡ why w s
  why-plain e h = rw e h

  pub why-optional-name : w ≡ OptionalName → r ≡ why_name s → r ≡ why w s
  why-optional-name e h = rw e h

  pub why-path : w ≡ Path → r ≡ why_path s → r ≡ why w s
  why-path e h = rw e h

  pub why-optional-path : w ≡ OptionalPath → r ≡ why_path s → r ≡ why w s
  why-optional-path e h = rw e h

module _ (w : Want) (s : List ℕ) where
  pub why-flags : w ≡ Flags → NoFlags ≡ why w s
  why-flags e = rw e

  pub why_frame_type : w ≡ FrameType → NoType ≡ why w s
  why_frame_type e = rw e

  pub why_command_type : w ≡ CommandType → NoType ≡ why w s
  why_command_type e = rw e

pub ruleset why_laws = (
  why-number,
  why-optional-number,
  why-level,
  why-name,
  why-plain,
  why-optional-name,
  why-path,
  why-optional-path,
  why-flags,
  why_frame_type,
  why_command_type,
)

-- ---- what is told
module _ (w : Want) (s : List ℕ) (b : Bool) (is : b ≡ right w s) where
  pub told-right : b ≡ true → Right ≡ fault_of w s
  told-right e = rw (← is, e)

  module _ (none : b ≡ false) where
    pub told-empty : length s ≡ 0 → Empty ≡ fault_of w s
    told-empty h = rw (← is, none, eq-eqb _ _ h)

    module _ (some : length s ≡ 0 → ⊥) (d : Bool) (dash : d ≡ missing s) where
      pub told-dash : d ≡ true → Dash ≡ fault_of w s
      told-dash e = rw (← is, none, ne_eqb _ _ some, ← dash, e)

      pub told-why : (r : Fault) → d ≡ false → r ≡ why w s → r ≡ fault_of w s
      told-why r e h = rw (← is, none, ne_eqb _ _ some, ← dash, e) h

pub ruleset laws = (number-over, number_stray, number-lead, name-long, name_byte, plain-dot, plain-name, told-right, told-empty, told-dash, told-why)
