-- F19 (docs/RULES.md): frame records for the screen. Flat rows, as F17, FP1 and BF2 say, stand one behind the other in a list of numbers.
use Rattle.std.specs.Prelude.{◌≡◌, cond, not, ◌&&◌, List, [], ◌∷◌, ◌++◌, ℕ, zero, suc, ◌+◌, ◌-◌, ◌/◌, ◌%◌, eqb, leb, get_or, drop, length}
use Rattle.std.specs.Int.{w8}
use Rattle.std.proofs.Common.{to_z}
use Rattle.frame.specs.declared.Rules.{Rules}
use Rattle.frame.specs.declared.PtiFrame.{PtiFrame}
use Rattle.frame.specs.Frame.{is_frame, frame_of, direction_number, beams_number}
use Rattle.records.specs.Records.{bytes_of}
use Rattle.pti.specs.Payload.{row_width}
use Rattle.screen.specs.declared.FrameRecord.{FrameRecord}

-- F19: the frame record of the flat row that comes first in these numbers: the RSSI is the signed number of its byte, and there is a beam
-- count where it isn't 0. Of a number that is wider than its field, which no flat row of a frame has, the low bits are kept.
unfoldable pub record_of : List ℕ → FrameRecord
record_of row =
    record {
      direction = get_or row 0 0 % 256;
      region = get_or row 1 0 % 256;
      channel = get_or row 2 0 % 256;
      rate = get_or row 3 0 % 256;
      rssi = to_z w8 (get_or row 4 0 % 256);
      is_beam = not (eqb (get_or row 5 0) 0);
      beams = get_or row 5 0;
      start = get_or row 6 0;
      length = get_or row 7 0;
      number = get_or row 8 0;
      place = get_or row 9 0;
      node = get_or row 10 0;
      hash = get_or row 11 0;
      power = get_or row 12 0;
    }

-- F19: the frame records of the first n flat rows.
abbrev pub records_of : ℕ → List ℕ → List FrameRecord
records_of zero rows = []
records_of (suc n) rows = record_of rows ∷ records_of n (drop row_width rows)

-- The frame table with the first n records filled: those records, followed by what stood behind them.
abbrev pub filled : ℕ → List ℕ → List FrameRecord → List FrameRecord
filled n rows frames = records_of n rows ++ drop n frames

-- F19: how many are filled of n. All, where the table has n records and the numbers are n flat rows or more; else none.
unfoldable pub fillable_of : ℕ → ℕ → ℕ → ℕ
fillable_of n records numbers = cond (leb n records && leb n (numbers / row_width)) n 0

-- F19: the answer, and the frame table then.
pub record Filled (rows : List ℕ) (n : ℕ) (entry : List FrameRecord) (answer : ℕ) (exit : List FrameRecord) : Type 0 where
  pub count : answer ≡ fillable_of n (length entry) (length rows)
  pub table : exit ≡ filled answer rows entry

-- F19, FP1, BF2: the frame record of the frame of record k, whose body starts at this place of the payload
abbrev pub shown_of : ℕ → ℕ → PtiFrame → FrameRecord
shown_of k body f =
    record {
      direction = direction_number f.direction;
      region = f.region;
      channel = f.channel;
      rate = f.rate;
      rssi = f.rssi;
      is_beam = not (eqb (beams_number f.beams) 0);
      beams = beams_number f.beams;
      start = body + f.start.0;
      length = f.length;
      number = k;
      place = body - 3;
      node = f.target.node;
      hash = f.target.hash;
      power = f.target.power;
    }

-- F19, FP1, BF2: the frame records of the bodies that hold a frame by the rules w, in their order; the first body is number k
abbrev pub shown_in : Rules → List ℕ → ℕ → List (ℕ × ℕ) → List FrameRecord
shown_in w s k [] = []
shown_in w s k (b ∷ bs) =
    cond (is_frame w (bytes_of s b)) (shown_of k b.0 (frame_of w (bytes_of s b)) ∷ shown_in w s (k + 1) bs) (shown_in w s (k + 1) bs)
