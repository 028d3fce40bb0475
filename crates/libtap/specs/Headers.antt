-- The answers of the calls on an MPDU as C has them.
use Rattle.std.specs.Prelude.{◌≡◌, true, false, List, ℕ, Option, Some, None, Result, Ok, Err}
use Rattle.refusal.specs.Refusal.{carried_by}
use Rattle.header.specs.declared.DecodedHeader.{DecodedHeader}
use Rattle.header.specs.Decode.{number_in, Decodes}
use Rattle.libtap.specs.declared.headers.TapBits.{TapBits}
use Rattle.libtap.specs.declared.headers.TapHeader.{TapHeader}
use Rattle.refusal.specs.declared.Refusal.{Refusal}

-- whether there is a value, and the value
abbrev pub told_bits : Option ℕ → TapBits
told_bits (Some n) = record { is_read = true; value = n }
told_bits None = record { is_read = false; value = 0 }

-- the numbers of a header
abbrev pub headed : DecodedHeader → TapHeader
headed h =
    record {
      refusal = number_in (Ok h);
      value = 0;
      number = h.number;
      key = h.key;
      name = h.name.start;
      name_length = h.name.len;
      payload = h.payload;
      rows = h.rows;
      right = h.right;
      ack = h.flags.ack;
      routed = h.flags.routed;
      multicast = h.flags.multicast;
      error = h.flags.error;
    }

-- the header, or the refusal's number and what it carries
abbrev pub told_header : Result DecodedHeader Refusal → TapHeader
told_header (Ok h) = headed h
told_header (Err x) =
    record {
      refusal = number_in (Err x);
      value = carried_by x;
      number = 0;
      key = 0;
      name = 0;
      name_length = 0;
      payload = 0;
      rows = 0;
      right = false;
      ack = false;
      routed = false;
      multicast = false;
      error = false;
    }

-- what `tap_decode_header` answers and leaves: what `decode_header` does, told so
pub record ToldHeader (text mpdu : List ℕ) (region speed : ℕ) (table : List ℕ) (r : TapHeader) (table' : List ℕ) : Type 0 where
  pub answer : Result DecodedHeader Refusal
  pub decodes : Decodes text mpdu region speed table answer table'
  pub told : r ≡ told_header answer
