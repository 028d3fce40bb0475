-- H21 to H23 (docs/RULES.md): checksum and CRC, those of ITU-T G.9959.
use Rattle.std.specs.Prelude.{Bool, cond, ◌&&◌, List, [], ◌∷◌, ℕ, ◌-◌, ◌*◌, ◌^◌, leb, ltb, eqb, length, take, drop}
use Rattle.bits.specs.Bits.{bits_at, number_after}
use Rattle.crc.specs.Poly.{plus, Leaves, divided}

-- ---- H21: the checksum of one byte
abbrev pub sum_from : ℕ → List ℕ → ℕ
sum_from v [] = v
sum_from v (b ∷ bs) = sum_from (plus v b) bs

-- H21: the checksum of a message
abbrev pub checksum : List ℕ → ℕ
checksum m = sum_from 0xFF m

-- ---- H22: the CRC of two bytes
-- x ^ 16 + x ^ 12 + x ^ 5 + 1; the term x ^ 16 is not said in 0x1021
abbrev pub generator : ℕ
generator = 0x11021

-- what is divided: the bits of the message, the first highest, times x ^ 16; and the initial value, added to the first sixteen places
unfoldable pub dividend : List ℕ → ℕ
dividend m = plus (bits_at m 0 (8 * length m) * 2 ^ 16) (0x1D0F * 2 ^ (8 * length m))

-- H22: r is the CRC of m: what the division by the generator leaves. There is exactly one (crc_is and crc-only of proofs/Division)
abbrev pub IsCrc : List ℕ → ℕ → Type 0
IsCrc m r = Leaves 16 generator (dividend m) r

-- H22: it, by long division
unfoldable pub crc : List ℕ → ℕ
crc m = divided 16 generator (8 * length m) (dividend m)

-- ---- H23: is an MPDU right at a speed?
-- what stands before the last n bytes, and these as one number
abbrev pub body_of : ℕ → List ℕ → List ℕ
body_of n m = take (length m - n) m

abbrev pub trailer_of : ℕ → List ℕ → ℕ
trailer_of n m = number_after 0 (drop (length m - n) m)

-- H23: do its last one or two bytes fit the bytes before
unfoldable pub right : List ℕ → ℕ → Bool
right m speed =
    cond (leb speed 1)
    (ltb 1 (length m) && eqb (checksum (body_of 1 m)) (trailer_of 1 m))
    (ltb 2 (length m) && eqb (crc (body_of 2 m)) (trailer_of 2 m))
