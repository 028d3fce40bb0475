-- Checksums worked out elsewhere. (E6 to E8 of docs/RULES.md are in crate `examples`.)
use Rattle.std.specs.Prelude.{◌≡◌, refl, true, [], ◌∷◌}
use Rattle.bits.specs.Bits.{bits_at}
use Rattle.crc.specs.Poly.{plus, times}
use Rattle.crc.specs.Crc.{dividend, crc, right}
use Rattle.crc.specs.Register.{turn, crc_byte, register}

-- no message at all leaves the initial value
empty : crc [] ≡ 0x1D0F
unfolding bits_at plus dividend crc
empty = refl

-- the digits 1 to 9, by division and by the register
digits : crc (0x31 ∷ 0x32 ∷ 0x33 ∷ 0x34 ∷ 0x35 ∷ 0x36 ∷ 0x37 ∷ 0x38 ∷ 0x39 ∷ []) ≡ 0xE5CC
unfolding bits_at plus dividend crc
digits = refl

digits_turned : register (0x31 ∷ 0x32 ∷ 0x33 ∷ 0x34 ∷ 0x35 ∷ 0x36 ∷ 0x37 ∷ 0x38 ∷ 0x39 ∷ []) ≡ 0xE5CC
unfolding plus times turn crc_byte
digits_turned = refl

-- a captured MPDU
captured : right (0xCC ∷ 0x14 ∷ 0xD2 ∷ 0xF3 ∷ 0x02 ∷ 0x03 ∷ 0x0F ∷ 0x0B ∷ 0x01 ∷ 0xF2 ∷ 0xC9 ∷ []) 2 ≡ true
unfolding bits_at plus dividend crc right
captured = refl
