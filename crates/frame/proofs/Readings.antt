-- Both readings of beams: BF4 and BF5 (docs/RULES.md). Assumes nothing.
use mathlib.Core.Path.{◌≡◌, refl, sym, ap, ◌∙◌}
use mathlib.Core.Bool.{Bool, true, false, cond, ◌&&◌}
use mathlib.Core.List.{List}
use Prim.Native.Nat.{ℕ}
use lib.Dec.{eqb, leb}
use lib.ListN.{length}
use Rattle.laws.proofs.Bools.{and_left}
use Rattle.refusal.specs.declared.Refusal.TheVariants.{TooLong, NotAFrame, Firmware}
use Rattle.frame.specs.declared.Reading.TheVariants.{Marker, Family}
use Rattle.frame.specs.Frame.{region_bits, rules_of, header, start, direction_of, between, middle, fields, rate_in, is_marked, is_beam, beam_in, Unmarked}
use Rattle.frame.specs.Frame.{holds, is_frame, framed, frame_of, numbers_at, parsed_of}
use Rattle.std.specs.Prelude.{Ok, Err}

-- a beam of the second reading is one of the first
pub family_marked : (rate : ℕ) (m : List ℕ) → is_beam Family rate m ≡ true → is_beam Marker rate m ≡ true
family_marked rate m beam = and_left (is_marked m) _ beam

module _ (firmware : ℕ) (b : List ℕ) where
  abbrev first : Bool
  first = is_frame (rules_of firmware Marker) b

  abbrev second : Bool
  second = is_frame (rules_of firmware Family) b

  -- ---- a body whose middle bytes don't start with the marker
  module _ (unmarked : Unmarked b) where
    by_layout : (y : Bool) → between b ≡ y → first ≡ second
    by_layout false e = rw e refl
    by_layout true e = let none = unmarked e in rw none refl

    pub is_read : first ≡ second
    is_read = by_layout (between b) refl

    pub frame_read : first ≡ true → frame_of (rules_of firmware Marker) b ≡ frame_of (rules_of firmware Family) b
    frame_read whole = let none = unmarked (and_left (between b) _ whole) in rw none refl

    by_frame : (y : Bool) → first ≡ y
        → cond first (Ok (frame_of (rules_of firmware Marker) b)) (Err NotAFrame)
        ≡ cond second (Ok (frame_of (rules_of firmware Family) b)) (Err NotAFrame)
    by_frame false e = rw (← is_read, e) refl
    by_frame true e = rw (← is_read, e) (ap Ok (frame_read e))

    -- of a single record both readings give the same answer
    pub record_read : parsed_of firmware Marker b ≡ parsed_of firmware Family b
    record_read =
        let frame = by_frame first refl in
        λ k.
        cond (eqb (region_bits firmware) 0) (Err (Firmware firmware))
        (cond (leb (length b) 2048) (frame k) (Err (TooLong (length b))))

  -- ---- a frame that is a beam in the second reading is one in the first, and the numbers of F16 are the same
  module _ (beam : beam_in (rules_of firmware Family) b ≡ true) where
    pub beam_read : beam_in (rules_of firmware Marker) b ≡ true
    beam_read = family_marked (rate_in (region_bits firmware) b) (middle b) beam

    same_beam : beam_in (rules_of firmware Marker) b ≡ beam_in (rules_of firmware Family) b
    same_beam = beam_read ∙ sym beam

    pub beam_whole : second ≡ first
    beam_whole = λ k. between b && holds (direction_of (start b)) (sym same_beam k) (fields (region_bits firmware) b)

    pub beam_same : (at : ℕ) → numbers_at at (frame_of (rules_of firmware Family) b) ≡ numbers_at at (frame_of (rules_of firmware Marker) b)
    beam_same at =
        λ k.
        numbers_at at
        (framed Marker (direction_of (start b)) (fields (region_bits firmware) b) (rate_in (region_bits firmware) b) (sym same_beam k) (header b)
        (middle b))
