-- The answers of the calls on payloads, records and texts as C has them.
use Rattle.std.specs.Prelude.{◌≡◌, List, [], ℕ, ◌+◌, ◌≤◌, length, get_or, drop, Result, Ok, Err}
use Rattle.records.specs.Records.{span_of}
use Rattle.frame.specs.declared.Reading.{Reading}
use Rattle.frame.specs.Frame.{said, rules_of}
use Rattle.pti.specs.Payload.{frames_of, said_of, table_after, LocatedIn}
use Rattle.text.specs.Judge as text
use Rattle.tidy.specs.Tidy.{Tidies}
use Rattle.libtap.specs.declared.TapAnswer.{TapAnswer}
use Rattle.libtap.specs.declared.frames.TapFrame.{TapFrame}
use Rattle.libtap.specs.declared.frames.TapPart.{TapPart}
use Rattle.libtap.specs.declared.frames.TapTarget.{TapTarget}
use Rattle.libtap.specs.Values.{told_written}
use Rattle.refusal.specs.declared.Refusal.{Refusal}
use Rattle.frame.specs.declared.PtiFrame.{PtiFrame}

-- an answer in numbers, as F5 and F18 (docs/RULES.md) have it
abbrev pub answered : ℕ × ℕ → TapAnswer
answered said = record { refusal = said.0; value = said.1 }

-- where a body starts, and its length
abbrev pub part : ℕ × ℕ → TapPart
part b = record { start = b.0; length = b.1 }

-- what `tap_record_body` answers for a payload s: where the body k lies, inside the payload
pub record ToldBody (s : List ℕ) (k : ℕ) (r : TapPart) : Type 0 where
  pub answer : r ≡ part (span_of s k)
  pub inside : r.start + r.length ≤ length s

-- as many entries as are answered stand in the table or buffer t that was lent
abbrev pub Stands : List ℕ → TapAnswer → Type 0
Stands t r = r.refusal ≡ 0 → r.value ≤ length t

-- the numbers of a beam's target, as BF2 has them
abbrev pub aimed : List ℕ → TapTarget
aimed t = record { node = get_or t 0 0; hash = get_or t 1 0; power = get_or t 2 0 }

-- the numbers of a frame, as F16 has them, and behind them those of its target
abbrev pub framed : List ℕ → TapFrame
framed f =
    record {
      refusal = 0;
      value = 0;
      direction = get_or f 0 0;
      region = get_or f 1 0;
      channel = get_or f 2 0;
      rate = get_or f 3 0;
      rssi = get_or f 4 0;
      beams = get_or f 5 0;
      start = get_or f 6 0;
      length = get_or f 7 0;
      target = aimed (drop 8 f);
    }

-- the frame, or the refusal's number and what it carries
abbrev pub told_frame : Result PtiFrame Refusal → TapFrame
told_frame (Ok f) = framed (said (Ok f)).1
told_frame (Err x) =
    record {
      refusal = (said (Err x)).0;
      value = get_or (said (Err x)).1 0 0;
      direction = 0;
      region = 0;
      channel = 0;
      rate = 0;
      rssi = 0;
      beams = 0;
      start = 0;
      length = 0;
      target = aimed [];
    }

-- a verdict's number and its line
abbrev pub judged : Result (Unit {0}) Refusal → TapAnswer
judged v = record { refusal = text.number_of v; value = text.line_of v }

-- what `tap_tidy_command_text` answers and leaves: what `tidy_command_text` does, told so
pub record ToldTidied (text buffer : List ℕ) (r : TapAnswer) (buffer' : List ℕ) : Type 0 where
  pub answer : Result ℕ Refusal
  pub tidies : Tidies text buffer answer buffer'
  pub told_so : r ≡ told_written answer

-- what `tap_parse_payload` answers and leaves, for a payload s and a table t
pub record Told (firmware : ℕ) (reading : Reading) (s t : List ℕ) (r : TapAnswer) (t' : List ℕ) : Type 0 where
  pub answer : r ≡ answered (said_of firmware reading s (length t))
  pub table : t' ≡ table_after (rules_of firmware reading) s t (frames_of firmware reading s (length t))
  pub located : LocatedIn (rules_of firmware reading) s (frames_of firmware reading s (length t))
