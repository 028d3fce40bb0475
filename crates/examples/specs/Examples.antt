-- E1 to E11 (docs/RULES.md), proved together under one claim, over the definitions that the contracts cite.
use Rattle.std.specs.Prelude.{◌≡◌, refl, Bool, true, false, cond, [], ◌∷◌, ℕ, leb, eqb, Ok, Err}
use Rattle.records.specs.Records.{bodies, bodies_from}
use Rattle.radio.specs.Speed.{rate_of}
use Rattle.radio.specs.Beam.{beams_of}
use Rattle.bits.specs.Bits.{bits_at}
use Rattle.crc.specs.Poly.{plus}
use Rattle.crc.specs.Crc.{checksum, dividend, crc, right}
use Rattle.refusal.specs.declared.Refusal.TheVariants.{NoCandidate}
use Rattle.header.specs.Decode.{decoded, told_of, table_after}
use Rattle.header.specs.Examples.{text, table, a5c3, a5c3-rows, a53c}
use Rattle.command_class.specs.Definition.{definition}
use Rattle.command_rules.specs.declared.Offsets.TheVariants.{Answered}
use Rattle.command.specs.Answer.{answered, answer_of, table_after as rowsAfter}
use Rattle.command.specs.Examples.{text as command-text, payload, lent, starred as params_are, starred-rows as params-rows-are}

pub record Starred : Type 0 where
  -- E1, E2
  pub no_body : bodies (0x5B ∷ 0x02 ∷ 0x00 ∷ 0x5D ∷ []) ≡ []
  pub empty-body : bodies (0x5B ∷ 0x02 ∷ 0x00 ∷ 0x5D ∷ 0x00 ∷ []) ≡ (3, 0) ∷ []
  -- E3, E4
  pub long_range : rate_of 3 12 ≡ 3
  pub no_rate : rate_of 2 14 ≡ 0
  -- E5
  pub two_beams : beams_of 0 (0x55 ∷ 0x01 ∷ 0x02 ∷ 0xAA ∷ 0x55 ∷ 0x01 ∷ 0x02 ∷ []) ≡ 2
  -- E6 to E8
  pub sum-right : right (0x01 ∷ 0x02 ∷ 0x03 ∷ 0xFF ∷ []) 0 ≡ true
  pub short-right : right (0x00 ∷ 0xFF ∷ []) 0 ≡ true
  pub crc-right : right (0x1D ∷ 0x0F ∷ 0x00 ∷ []) 2 ≡ true
  pub never-right : (speed : ℕ) → right (0x1D ∷ 0x0F ∷ []) speed ≡ false
  -- E9, E10
  pub header : decoded text (0xA5 ∷ 0xC3 ∷ []) 0 0 30
      ≡ Ok (record {
        number = 0;
        key = 0;
        flags = record { ack = false; routed = false; multicast = false; error = false };
        name = record { start = 109; len = 1 };
        payload = 2;
        right =
            false;
        rows = 4;
      })
  pub header-rows : table_after table (told_of text (0xA5 ∷ 0xC3 ∷ []) 0 0 30) (decoded text (0xA5 ∷ 0xC3 ∷ []) 0 0 30)
      ≡ 0 ∷ 0 ∷ 0 ∷ 8 ∷ 1 ∷ 0xA5 ∷ 0
      ∷ 1 ∷ 0 ∷ 8 ∷ 8 ∷ 1 ∷ 0xC3 ∷ 0
      ∷ 2 ∷ 2 ∷ 12 ∷ 4 ∷ 1 ∷ 3 ∷ 0
      ∷ 3 ∷ 2 ∷ 8 ∷ 4 ∷ 1 ∷ 12 ∷ 0
      ∷ 9 ∷ 9 ∷ []
  pub no_header : decoded text (0xA5 ∷ 0x3C ∷ []) 0 0 30 ≡ Err NoCandidate
  -- E11
  pub params : answer_of Answered command-text payload 22 ≡ answered 2 5
  pub params-rows : rowsAfter Answered (definition command-text) payload lent (answer_of Answered command-text payload 22)
      ≡ 0 ∷ 1 ∷ 0 ∷ 2 ∷ 3 ∷ 1 ∷ 2 ∷ 0 ∷ 0 ∷ 0
      ∷ 0 ∷ 2 ∷ 0 ∷ 3 ∷ 5 ∷ 1 ∷ 0xAABB ∷ 0 ∷ 0 ∷ 0
      ∷ 9 ∷ 9 ∷ []

-- as a checksum 0F is wrong, and as a CRC 1D 0F has no body
neither : (b : Bool) → cond b (eqb (checksum (0x1D ∷ [])) 0x0F) false ≡ false
unfolding plus
neither true = refl
neither false = refl

never : (speed : ℕ) → right (0x1D ∷ 0x0F ∷ []) speed ≡ false
unfolding right
never speed = neither (leb speed 1)

pub starred : Starred
unfolding bodies_from rate_of beams_of bits_at plus dividend crc right
starred =
    record {
      no_body = refl;
      empty-body = refl;
      long_range = refl;
      no_rate = refl;
      two_beams = refl;
      sum-right = refl;
      short-right = refl;
      crc-right = refl;
      never-right = never;
      header = a5c3;
      header-rows = a5c3-rows;
      no_header = a53c;
      params = params_are;
      params-rows = params-rows-are;
    }
