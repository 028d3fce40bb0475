-- H22 (docs/RULES.md): the shift register of ITU-T G.9959, which the code goes by: after a message it holds its CRC (register-crc of proofs/Register).
use Rattle.std.specs.Prelude.{◌≡◌, List, [], ◌∷◌, ℕ, zero, suc, ◌*◌, ◌/◌, ◌^◌, ◌<◌, get_or}
use Rattle.crc.specs.Poly.{plus, times}
use Rattle.crc.specs.Crc.{generator}

-- a turn: r times x, and the generator taken away where that has a term x ^ 16
unfoldable pub turn : ℕ → ℕ
turn r = plus (r * 2) (times (r / 2 ^ 15) generator)

abbrev pub turns : ℕ → ℕ → ℕ
turns zero r = r
turns (suc n) r = turns n (turn r)

-- a byte: added at the top, then eight turns
unfoldable pub crc_byte : ℕ → ℕ → ℕ
crc_byte r b = turns 8 (plus r (b * 2 ^ 8))

abbrev pub crc_from : ℕ → List ℕ → ℕ
crc_from r [] = r
crc_from r (b ∷ bs) = crc_from (crc_byte r b) bs

-- H22: what the register holds after a message
abbrev pub register : List ℕ → ℕ
register m = crc_from 0x1D0F m

-- a table has what eight turns make of each byte at the top
pub record TurnTable (t : List ℕ) : Type 0 where
  pub entry : (k : ℕ) → k < 256 → get_or t k 0 ≡ turns 8 (k * 256)
