-- Laws of the answers as C has them. Assumes nothing.
use mathlib.Core.Path.{◌≡◌, refl, ap, ◌∙◌}
use mathlib.Core.Bool.{Bool, true, false}
use mathlib.Core.List.{List}
use Prim.Native.Nat.{ℕ, ◌-◌, ◌^◌, ◌<◌}
use native.Mathlib.Omega.{arith}
use lib.Signed.{mag}
use mir.Syntax.{w8}
use mir.Val.{to_z, of_z, hbits}
use mir.Facts.{to_z-of_z}
use Rattle.refusal.specs.declared.Refusal.{Refusal}
use Rattle.refusal.specs.Refusal.{number_of, carried_by}
use Rattle.records.specs.declared.Span.{Span}
use Rattle.records.specs.Records.{said, said_of, Counts}
use Rattle.records.specs.Steps.{IsBody}
use Rattle.frame.specs.declared.Reading.{Reading}
use Rattle.frame.specs.Frame.{reading_by, direction_number, beams_number, target_numbers, frame_numbers, parsed_of, Parses as ParsesRecord}
use Rattle.frame.specs.declared.PtiFrame.{PtiFrame}
use Rattle.pti.specs.Payload.{said as saidFrames, Parses}
use Rattle.header.specs.declared.DecodedHeader.{DecodedHeader}
use Rattle.header.specs.Decode.{Decodes}
use Rattle.records.specs.declared.PayloadOffset.{PayloadOffset}
use Rattle.command_rules.specs.declared.Offsets.{Offsets}
use Rattle.command.specs.declared.Rows.{Rows}
use Rattle.command.specs.Answer.{offsets_by, told as toldParams, Decodes as DecodesParams}
use Rattle.command_part.specs.declared.Part.{Part}
use Rattle.command_part.specs.Part.{command_part, span}
use Rattle.libtap.specs.declared.TapAnswer.{TapAnswer}
use Rattle.libtap.specs.declared.frames.TapFrame.{TapFrame}
use Rattle.libtap.specs.declared.frames.TapTarget.{TapTarget}
use Rattle.libtap.specs.declared.headers.TapBits.{TapBits}
use Rattle.libtap.specs.declared.headers.TapHeader.{TapHeader}
use Rattle.libtap.specs.declared.commands.TapParams.{TapParams}
use Rattle.libtap.specs.Answers.{answered, judged, part, ToldBody, aimed, framed, told_frame, Told}
use Rattle.libtap.specs.Headers.{told_bits, headed, told_header, ToldHeader}
use Rattle.libtap.specs.Commands.{told_by}
use Rattle.std.specs.Prelude.{Option, Some, None, Result, Ok, Err}

pub refuses : (x : Refusal) (number carried : ℕ) → number ≡ number_of x → carried ≡ carried_by x
    → record { refusal = number; value = carried } ≡ answered (number_of x, carried_by x)
refuses x number carried is_number is_Carried = rw (is_number, is_Carried) refl

-- ---- frames
pub tells-rows : (f : Result ℕ Refusal) (n : ℕ) (r : TapAnswer) → f ≡ Ok n → r ≡ answered (0, n) → r ≡ answered (saidFrames f)
tells-rows f n r e is = rw e is

pub tells_refusal : (f : Result ℕ Refusal) (x : Refusal) (r : TapAnswer) → f ≡ Err x → r ≡ answered (number_of x, carried_by x)
    → r ≡ answered (saidFrames f)
tells_refusal f x r e is = rw e is

pub told-all : (firmware : ℕ) (reading : Reading) (family : Bool) (s t : List ℕ) (f : Result ℕ Refusal) (r : TapAnswer) (t' : List ℕ)
    → Parses firmware reading s t f t' → reading ≡ reading_by family → r ≡ answered (saidFrames f) → Told firmware (reading_by family) s t r t'
told-all firmware reading family s t f r t' parses is-reading is-r =
    let p : Parses firmware (reading_by family) s t f t' = rw is-reading at parses in
    record { answer = is-r ∙ ap answered p.numbers; table = rw p.answer at p.table; located = rw p.answer at p.located }

pub counts : (c : Result ℕ Refusal) (n : ℕ) (r : TapAnswer) → c ≡ Ok n → r ≡ answered (0, n) → r ≡ answered (said c)
counts c n r e is = rw e is

pub counts_refusal : (c : Result ℕ Refusal) (x : Refusal) (r : TapAnswer) → c ≡ Err x → r ≡ answered (number_of x, carried_by x) → r ≡ answered (said c)
counts_refusal c x r e is = rw e is

pub counts_all : (s : List ℕ) (c : Result ℕ Refusal) (r : TapAnswer) → Counts s c → r ≡ answered (said c) → r ≡ answered (said_of s)
counts_all s c r so is-r = is-r ∙ ap answered so.numbers

pub parts : (s : List ℕ) (k : ℕ) (b : Span) → IsBody s k b → ToldBody s k (record { start = b.start.0; length = b.end.0 - b.start.0 })
parts s k b body = record { answer = rw body.is refl; inside = omega (arith, body.ordered, body.inside) }

pub framed-row : (f : PtiFrame) (d rssi beams : ℕ) (target : TapTarget) → d ≡ direction_number f.direction
    → rssi ≡ of_z w8 (to_z w8 (of_z w8 f.rssi))
    → mag f.rssi < 2 ^ hbits w8 → beams ≡ beams_number f.beams → target ≡ aimed (target_numbers f.target)
    → record {
      refusal = 0;
      value = 0;
      direction = d;
      region = f.region;
      channel = f.channel;
      rate = f.rate;
      rssi = rssi;
      beams = beams;
      start = f.start.0;
      length = f.length;
      target = target;
    } ≡ framed (frame_numbers f)
framed-row f d rssi beams target is-d is-rssi ok is-beams is-target =
    let read_back : to_z w8 (of_z w8 f.rssi) ≡ f.rssi = to_z-of_z {w = w8} {z = f.rssi} (record { sfits = ok }) in
    rw (is-d, is-rssi, read_back, is-beams, is-target) refl

pub frames : (p : Result PtiFrame Refusal) (f : PtiFrame) (r : TapFrame) → p ≡ Ok f → r ≡ framed (frame_numbers f) → r ≡ told_frame p
frames p f r e is-r = rw e is-r

pub frames_refusal : (p : Result PtiFrame Refusal) (x : Refusal) (number carried : ℕ) → p ≡ Err x → number ≡ number_of x → carried ≡ carried_by x
    → record {
      refusal = number;
      value = carried;
      direction = 0;
      region = 0;
      channel = 0;
      rate = 0;
      rssi = 0;
      beams = 0;
      start = 0;
      length = 0;
      target = record { node = 0; hash = 0; power = 0 };
    } ≡ told_frame p
frames_refusal p x number carried e is_number is_Carried = rw (e, is_number, is_Carried) refl

pub frames-all : (firmware : ℕ) (reading : Reading) (family : Bool) (b : List ℕ) (p : Result PtiFrame Refusal) (r : TapFrame) → ParsesRecord firmware reading b p
    → reading ≡ reading_by family → r ≡ told_frame p → r ≡ told_frame (parsed_of firmware (reading_by family) b)
frames-all firmware reading family b p r so is-reading is-r = is-r ∙ ap told_frame (rw is-reading at so.answer)

-- ---- texts
pub tells-accepted : (v : Result (Unit {0}) Refusal) (r : TapAnswer) → v ≡ Ok tt → r ≡ answered (0, 0) → r ≡ judged v
tells-accepted v r e is = rw e is

pub tells_unfit : (v : Result (Unit {0}) Refusal) (x : Refusal) (r : TapAnswer) → v ≡ Err x → r ≡ answered (number_of x, carried_by x) → r ≡ judged v
tells_unfit v x r e is = rw e is

pub tells-verdict : (v w : Result (Unit {0}) Refusal) (r : TapAnswer) → v ≡ w → r ≡ judged v → r ≡ judged w
tells-verdict v w r e is-r = rw e at is-r

-- ---- headers
pub reads_value : (b : Option ℕ) (n : ℕ) → b ≡ Some n → record { is_read = true; value = n } ≡ told_bits b
reads_value b n e = rw e refl

pub reads_none : (b : Option ℕ) → b ≡ None → record { is_read = false; value = 0 } ≡ told_bits b
reads_none b e = rw e refl

pub reads_all : (b c : Option ℕ) (r : TapBits) → b ≡ c → r ≡ told_bits b → r ≡ told_bits c
reads_all b c r e is-r = rw e at is-r

pub heads : (d : Result DecodedHeader Refusal) (h : DecodedHeader) (r : TapHeader) → d ≡ Ok h → r ≡ headed h → r ≡ told_header d
heads d h r e is-r = rw e is-r

pub heads_refusal : (d : Result DecodedHeader Refusal) (x : Refusal) (number carried : ℕ) → d ≡ Err x → number ≡ number_of x → carried ≡ carried_by x
    → record {
      refusal = number;
      value = carried;
      number = 0;
      key = 0;
      name = 0;
      name_length = 0;
      payload = 0;
      rows = 0;
      right = false;
      ack = false;
      routed = false;
      multicast = false;
      error = false;
    } ≡ told_header d
heads_refusal d x number carried e is_number is_Carried = rw (e, is_number, is_Carried) refl

pub heads-all : (text mpdu : List ℕ) (region speed : ℕ) (t : List ℕ) (d : Result DecodedHeader Refusal) (r : TapHeader) (t' : List ℕ)
    → Decodes text mpdu region speed t d t' → r ≡ told_header d
    → ToldHeader text mpdu region speed t r t'
heads-all text mpdu region speed t d r t' so is-r = record { answer = d; decodes = so; told = is-r }

-- ---- commands
pub params : (p : Result Rows Refusal) (rows : Rows) → p ≡ Ok rows
    → told_by (record { refusal = 0; value = 0; rows = rows.count; remainder = rows.remainder.0 }) ≡ toldParams p
unfolding told_by toldParams
params p rows e = rw e refl

pub params_refusal : (p : Result Rows Refusal) (x : Refusal) (number carried : ℕ) → p ≡ Err x → number ≡ number_of x → carried ≡ carried_by x
    → told_by (record { refusal = number; value = carried; rows = 0; remainder = 0 }) ≡ toldParams p
unfolding told_by toldParams
params_refusal p x number carried e is_number is_Carried = rw (e, is_number, is_Carried) refl

pub params-all : (position : Bool) (offsets : Offsets) (text payload t : List ℕ) (p : Result Rows Refusal) (r : TapParams) (t' : List ℕ)
    → DecodesParams offsets text payload t (toldParams p) t' → offsets ≡ offsets_by position → told_by r ≡ toldParams p
    → DecodesParams (offsets_by position) text payload t (told_by r) t'
params-all position offsets text payload t p r t' so is is-r = rw (is-r, ← is) so

-- ---- tap_command_part
pub command_lies : (n payload speed : ℕ) (p : Part) → p ≡ command_part n payload speed
    → record { start = p.start; length = p.length } ≡ part (span (command_part n payload speed))
command_lies n payload speed p e = ap (λ (q : Part). part (span q)) e

pub ruleset laws = (
  refuses,
  tells-rows,
  tells_refusal,
  told-all,
  counts,
  counts_refusal,
  counts_all,
  parts,
  framed-row,
  frames,
  frames_refusal,
  frames-all,
  tells-accepted,
  tells_unfit,
  tells-verdict,
  reads_value,
  reads_none,
  reads_all,
  heads,
  heads_refusal,
  heads-all,
  params,
  params_refusal,
  params-all,
  command_lies,
)
