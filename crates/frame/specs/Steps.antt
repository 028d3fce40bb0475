-- What the steps below `parse_record` answer, over the definitions of the rules.
use Rattle.std.specs.Prelude.{cond, List, ℕ, ◌-◌, ◌≤◌, ◌<◌, length, take, drop, Option, Some, None}
use Rattle.frame.specs.declared.Parts.{Parts}
use Rattle.frame.specs.declared.PtiFrame.{PtiFrame}
use Rattle.frame.specs.declared.Reading.{Reading}
use Rattle.frame.specs.declared.Rules.{Rules}
use Rattle.frame.specs.Frame.{header, trailer, between, start, direction_of, fields, rate_in, beam_in, is_frame, framed}
use Rattle.records.specs.declared.BodyOffset.{BodyOffset}

-- where a body's header ends and its trailer starts
abbrev pub layout_of : List ℕ → Option (BodyOffset × BodyOffset)
layout_of b = cond (between b) (Some (record { 0 = header b }, record { 0 = length b - trailer b })) None

-- the parts of a body
abbrev pub parts_of : Rules → List ℕ → Parts
parts_of w b =
    record {
      direction = direction_of (start b);
      middle = record { 0 = header b };
      end = record { 0 = length b - trailer b };
      trailer = fields w.width b;
      rate = rate_in w.width b;
      beam = beam_in w b;
    }

abbrev pub split_of : Rules → List ℕ → Option Parts
split_of w b = cond (is_frame w b) (Some (parts_of w b)) None

-- the middle bytes that the parts p tell lie inside the body b
pub record Inside (b : List ℕ) (p : Parts) : Type 0 where
  pub some : p.middle.0 < p.end.0
  pub inside : p.end.0 ≤ length b

-- the frame of these parts of a body
abbrev pub framed_by : Reading → List ℕ → Parts → PtiFrame
framed_by reading b p =
    framed reading p.direction p.trailer p.rate p.beam p.middle.0 (take (p.end.0 - p.middle.0) (drop p.middle.0 b))
