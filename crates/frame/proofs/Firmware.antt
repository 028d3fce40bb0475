-- Both firmwares tell the same frame where the region has no fifth bit: FV3 (docs/RULES.md). Assumes nothing.
use mathlib.Core.Path.{◌≡◌, ap}
use mathlib.Core.Bool.{Bool, cond, ◌&&◌}
use mathlib.Core.List.{List}
use Prim.Native.Nat.{ℕ, ◌-◌, ◌/◌, ◌%◌}
use native.Mathlib.Omega.{arith}
use lib.Dec.{leb}
use lib.ListN.{length, get_or, drop}
use Rattle.refusal.specs.declared.Refusal.TheVariants.{TooLong, NotAFrame}
use Rattle.radio.specs.Speed.{rate_of}
use Rattle.frame.specs.declared.Reading.{Reading}
use Rattle.frame.specs.declared.Direction.{Direction}
use Rattle.frame.specs.declared.Direction.TheVariants.{Rx, Tx}
use Rattle.frame.specs.declared.Trailer.{Trailer}
use Rattle.frame.specs.Frame.{region_byte, fields_of, FourBits, header, start, trailer, direction_of, between, middle, fields, is_beam, holds, framed}
use Rattle.frame.specs.Frame.{rules_of, is_frame, frame_of, parsed_of}
use Rattle.std.specs.Prelude.{Ok, Err}

same-fields : (d : Direction) (t : List ℕ) → region_byte d t / 16 % 2 ≡ 0 → fields_of 4 d t ≡ fields_of 5 d t
same-fields Rx t e =
    let r : get_or t 2 0 % 16 ≡ get_or t 2 0 % 32 = omega arith in
    λ k. record { tag = get_or t 0 0; rssi = get_or t 1 0; region = r k; channel = get_or t 3 0 % 16; protocol = get_or t 4 0 % 16 }
same-fields Tx t e =
    let r : get_or t 1 0 % 16 ≡ get_or t 1 0 % 32 = omega arith in
    λ k. record { tag = get_or t 0 0; rssi = 0; region = r k; channel = get_or t 2 0 % 16; protocol = get_or t 3 0 % 16 }

module _ (reading : Reading) (b : List ℕ) (four : FourBits b) where
  fields-agree : fields 4 b ≡ fields 5 b
  fields-agree = same-fields (direction_of (start b)) (drop (length b - trailer b) b) four

  -- by the fields of a trailer: is it a beam
  abbrev beam_by : Trailer → Bool
  beam_by t = is_beam reading (rate_of t.channel t.region) (middle b)

  pub is_agree : is_frame (rules_of 2 reading) b ≡ is_frame (rules_of 3 reading) b
  is_agree = ap (λ (t : Trailer). between b && holds (direction_of (start b)) (beam_by t) t) fields-agree

  pub frame_agree : frame_of (rules_of 2 reading) b ≡ frame_of (rules_of 3 reading) b
  frame_agree =
      ap (λ (t : Trailer). framed reading (direction_of (start b)) t (rate_of t.channel t.region) (beam_by t) (header b) (middle b)) fields-agree

  -- of a single record
  pub record-agree : parsed_of 2 reading b ≡ parsed_of 3 reading b
  record-agree = λ k. cond (leb (length b) 2048) (cond (is_agree k) (Ok (frame_agree k)) (Err NotAFrame)) (Err (TooLong (length b)))
