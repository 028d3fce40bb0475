-- F7 to F13, F16, F17, FV1 to FV3 and BF1 to BF4 (docs/RULES.md): the frame in a record's body. A body is the list of its bytes. The rules are over w: how many
-- bits of its byte say the region, and which records are beams.
use Rattle.std.specs.Prelude.{◌≡◌, Bool, true, false, cond, not, ◌&&◌, ◌||◌, List, [], ◌∷◌, ◌++◌, ℕ, ◌+◌, ◌-◌, ◌/◌, ◌%◌, ◌^◌, eqb, leb, ltb, length, get_or, take, drop, Option, Some, None, Result, Ok, Err}
use Rattle.std.specs.Int.{w8}
use Rattle.std.proofs.Common.{to_z, of_z}
use Rattle.refusal.specs.declared.Refusal.TheVariants.{TooLong, NotAFrame, Firmware}
use Rattle.refusal.specs.Refusal.{most_frame, number_of, carried_by}
use Rattle.radio.specs.declared.beam.BeamTarget.{BeamTarget}
use Rattle.frame.specs.declared.Reading.{Reading}
use Rattle.frame.specs.declared.Reading.TheVariants.{Marker, Family}
use Rattle.frame.specs.declared.Rules.{Rules}
use Rattle.frame.specs.declared.Direction.{Direction}
use Rattle.frame.specs.declared.Direction.TheVariants.{Rx, Tx}
use Rattle.frame.specs.declared.Trailer.{Trailer}
use Rattle.frame.specs.declared.PtiFrame.{PtiFrame}
use Rattle.radio.specs.Speed.{rate_of}
use Rattle.radio.specs.Beam.{beams_of, target_of, no_target}
use Rattle.refusal.specs.declared.Refusal.{Refusal}

-- F7: the header's length by the first byte; 0 for a byte that no header has
abbrev pub header_of : ℕ → ℕ
header_of version = cond (eqb version 2) 12 (cond (eqb version 3) 19 0)

-- F7: the trailer's length by the header's last byte; 0 for a byte that no header has
abbrev pub trailer_of : ℕ → ℕ
trailer_of start = cond (eqb start 0xF8) 6 (cond (eqb start 0xFC) 5 0)

-- F7: the direction by the header's last byte
abbrev pub direction_of : ℕ → Direction
direction_of start = cond (eqb start 0xF8) Rx Tx

-- F11: the tag that a frame has, if it is no beam
abbrev pub success_of : Direction → ℕ
success_of Rx = 0xF9
success_of Tx = 0xFD

-- FV1: how many bits say the region, by the firmware that wrote the record; 0 for a firmware that there isn't
abbrev pub region_bits : ℕ → ℕ
region_bits firmware = cond (eqb firmware 2) 4 (cond (eqb firmware 3) 5 0)

-- FV1, BF1: the rules for what a firmware wrote, by a reading
abbrev pub rules_of : ℕ → Reading → Rules
rules_of firmware reading = record { width = region_bits firmware; reading = reading }

-- BF1: which reading is meant, where the caller says whether beams are a family of their own
abbrev pub reading_by : Bool → Reading
reading_by family = cond family Family Marker

-- F9: the byte of a trailer that says the region
abbrev pub region_byte : Direction → List ℕ → ℕ
region_byte Rx t = get_or t 2 0
region_byte Tx t = get_or t 1 0

-- F9, FV1: what the bytes of a trailer say
abbrev pub fields_of : ℕ → Direction → List ℕ → Trailer
fields_of w Rx t =
    record { tag = get_or t 0 0; rssi = get_or t 1 0; region = region_byte Rx t % 2 ^ w; channel = get_or t 3 0 % 16; protocol = get_or t 4 0 % 16 }
fields_of w Tx t = record { tag = get_or t 0 0; rssi = 0; region = region_byte Tx t % 2 ^ w; channel = get_or t 2 0 % 16; protocol = get_or t 3 0 % 16 }

-- ---- the parts of a body b
abbrev pub header : List ℕ → ℕ
header b = header_of (get_or b 0 0)

-- the header's last byte
abbrev pub start : List ℕ → ℕ
start b = get_or b (header b - 1) 0

abbrev pub trailer : List ℕ → ℕ
trailer b = trailer_of (start b)

-- F8: is there a middle byte
abbrev pub between : List ℕ → Bool
between b = not (eqb (header b) 0) && (not (eqb (trailer b) 0) && ltb (header b + trailer b) (length b))

-- F8: the middle bytes
abbrev pub middle : List ℕ → List ℕ
middle b = take (length b - trailer b - header b) (drop (header b) b)

abbrev pub fields : ℕ → List ℕ → Trailer
fields w b = fields_of w (direction_of (start b)) (drop (length b - trailer b) b)

-- FV3: the fifth bit of the byte that says a body's region is 0
abbrev pub FourBits : List ℕ → Type 0
FourBits b = region_byte (direction_of (start b)) (drop (length b - trailer b) b) / 16 % 2 ≡ 0

-- F13, FV1: the rate of a body's channel in its region
abbrev pub rate_in : ℕ → List ℕ → ℕ
rate_in w b = rate_of (fields w b).channel (fields w b).region

-- F10: do these middle bytes start with the marker
abbrev pub is_marked : List ℕ → Bool
is_marked m = eqb (get_or m 0 0) 0x55

-- F10, BF1: are these middle bytes a beam at a rate. In the first reading the marker says so; in the second it must repeat besides, or be too short for an
-- ordinary frame
abbrev pub is_beam : Reading → ℕ → List ℕ → Bool
is_beam Marker rate m = is_marked m
is_beam Family rate m = is_marked m && (leb 2 (beams_of rate m) || ltb (length m) 9)

abbrev pub beam_in : Rules → List ℕ → Bool
beam_in w b = is_beam w.reading (rate_in w.width b) (middle b)

-- BF4: a body whose middle bytes, if there are any, don't start with the marker
abbrev pub Unmarked : List ℕ → Type 0
Unmarked b = between b ≡ true → is_marked (middle b) ≡ false

-- F11: is the trailer one of a frame
abbrev pub holds : Direction → Bool → Trailer → Bool
holds d beam t = eqb t.protocol 6 && (beam || eqb t.tag (success_of d))

-- F11: is a body a frame
abbrev pub is_frame : Rules → List ℕ → Bool
is_frame w b = between b && holds (direction_of (start b)) (beam_in w b) (fields w.width b)

-- F12: how many of the middle bytes are the MPDU
abbrev pub mpdu_of : Bool → List ℕ → ℕ
mpdu_of beam m = cond (not beam && (ltb 7 (length m) && leb (get_or m 7 0) (length m))) (get_or m 7 0) (length m)

-- F16: how often the beam stands there, or that it is none
abbrev pub beams_in : Bool → ℕ → List ℕ → Option ℕ
beams_in beam rate m = cond beam (Some (beams_of rate m)) None

-- BF2: whom a beam wakes; the first reading doesn't look
abbrev pub target_in : Reading → Bool → ℕ → List ℕ → BeamTarget
target_in Marker beam rate m = no_target
target_in Family beam rate m = cond beam (target_of rate m) no_target

-- F16: the frame of a direction, a trailer, a rate and middle bytes, a beam or not, which start at a place of the body
abbrev pub framed : Reading → Direction → Trailer → ℕ → Bool → ℕ → List ℕ → PtiFrame
framed reading d t rate beam at m =
    record {
      direction = d;
      region = t.region;
      channel = t.channel;
      rate = rate;
      rssi = to_z w8 t.rssi;
      beams = beams_in beam rate m;
      start = record { 0 = at };
      length = mpdu_of beam m;
      target = target_in reading beam rate m;
    }

-- F16: the frame of a body
abbrev pub frame_of : Rules → List ℕ → PtiFrame
frame_of w b =
    framed w.reading (direction_of (start b)) (fields w.width b) (rate_in w.width b) (beam_in w b) (header b) (middle b)

-- F16, R11: what `parse_record` answers by these rules
abbrev pub parsed_by : Rules → List ℕ → Result PtiFrame Refusal
parsed_by w b = cond (leb (length b) most_frame) (cond (is_frame w b) (Ok (frame_of w b)) (Err NotAFrame)) (Err (TooLong (length b)))

-- FV2: the firmware is judged first
abbrev pub parsed_of : ℕ → Reading → List ℕ → Result PtiFrame Refusal
parsed_of firmware reading b = cond (eqb (region_bits firmware) 0) (Err (Firmware firmware)) (parsed_by (rules_of firmware reading) b)

-- F17: 0 is Rx, 1 is Tx
abbrev pub direction_number : Direction → ℕ
direction_number Rx = 0
direction_number Tx = 1

-- F17: the beam count, or 0 for none; a beam counts at least 1
abbrev pub beams_number : Option ℕ → ℕ
beams_number (Some n) = n
beams_number None = 0

-- F16, F17: the numbers of a frame whose MPDU starts at a place
abbrev pub numbers_at : ℕ → PtiFrame → List ℕ
numbers_at at f =
    direction_number f.direction ∷ f.region ∷ f.channel ∷ f.rate ∷ of_z w8 f.rssi ∷ beams_number f.beams ∷ at ∷ f.length ∷ []

-- BF2: the numbers of a beam's target
abbrev pub target_numbers : BeamTarget → List ℕ
target_numbers t = t.node ∷ t.hash ∷ t.power ∷ []

-- F16, BF2: the numbers of a single record's frame
abbrev pub frame_numbers : PtiFrame → List ℕ
frame_numbers f = numbers_at f.start.0 f ++ target_numbers f.target

-- F16: an answer in numbers: 0 and those of the frame, or the number of the refusal and what it carries
abbrev pub said : Result PtiFrame Refusal → ℕ × List ℕ
said (Ok f) = (0, frame_numbers f)
said (Err x) = (number_of x, carried_by x ∷ [])

-- F16, R11: those numbers for a body by these rules
abbrev pub said_by : Rules → List ℕ → ℕ × List ℕ
said_by w b = cond (leb (length b) most_frame) (cond (is_frame w b) (0, frame_numbers (frame_of w b)) (9, 0 ∷ [])) (4, length b ∷ [])

-- FV2: and by the firmware
abbrev pub said_of : ℕ → Reading → List ℕ → ℕ × List ℕ
said_of firmware reading b = cond (eqb (region_bits firmware) 0) (13, firmware ∷ []) (said_by (rules_of firmware reading) b)

-- F16: the answer of `parse_record`, as a case and in numbers
pub record Parses (firmware : ℕ) (reading : Reading) (b : List ℕ) (r : Result PtiFrame Refusal) : Type 0 where
  pub answer : r ≡ parsed_of firmware reading b
  pub numbers : said r ≡ said_of firmware reading b
