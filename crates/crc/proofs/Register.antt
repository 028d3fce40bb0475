-- The register holds what the division leaves. Assumes nothing.
use mathlib.Core.Path.{◌≡◌, refl, ap, ◌∙◌}
use mathlib.Core.Bool.{Bool, true, false}
use mathlib.Core.List.{List, [], ◌∷◌}
use Prim.Native.Nat.{ℕ, zero, suc, ◌+◌, ◌-◌, ◌*◌, ◌/◌, ◌^◌, ◌≤◌, ◌<◌}
use native.Mathlib.Nat.{mul_assoc, mul-one, pow-suc, mul_comm, mul-suc}
use native.Mathlib.Omega.{arith}
use lib.Dec.{T, ltb}
use lib.ListN.{length}
use lib.Pow.{pow-add, are_bytes}
use borrow.Author.Tests.{ltb-true, ltb-false}
use Rattle.laws.proofs.Bytes.{byte_first, bytes_rest}
use Rattle.bits.specs.Bits.{number_after}
use Rattle.bits.proofs.Number.{bits_number}
use Rattle.crc.specs.Poly.{plus, times, Leaves}
use Rattle.crc.specs.Crc.{generator, dividend, crc}
use Rattle.crc.specs.Register.{turn, turns, crc_byte, crc_from, register}
use Rattle.crc.proofs.Sums.{sums, plus-zero, plus_self, plus_assoc, plus-shift, plus_block, plus_join, plus-lt}
use Rattle.crc.proofs.Products.{times_zero, times_one, times_double, times-plus}
use Rattle.crc.proofs.Division.{crc-only}

-- ---- one turn
pub turn_low : (r : ℕ) → r < 0x8000 → turn r ≡ r * 2
unfolding turn
turn_low r h = let e : r / 2 ^ 15 ≡ 0 = omega arith in rw (e, times_zero generator, plus-zero (r * 2))

turn_high : (r : ℕ) → 0x8000 ≤ r → r < 0x10000 → turn r ≡ plus (r * 2 - 0x10000) (generator - 0x10000)
unfolding turn
turn_high r h l =
    let e : r / 2 ^ 15 ≡ 1 = omega arith in
    let d : r * 2 ≡ 1 * 2 ^ 16 + (r * 2 - 0x10000) = omega arith in
    rw (e, times_one generator)
    (ap (λ x. plus x generator) d ∙ plus_block 16 1 1 (r * 2 - 0x10000) (generator - 0x10000) (omega arith) (omega arith) ∙ rw (plus_self 1) (omega arith))

turn-lt : (r : ℕ) → r < 0x10000 → turn r < 0x10000
turn-lt r h = go (ltb r 0x8000) refl
  where
    go : (t : Bool) → ltb r 0x8000 ≡ t → turn r < 0x10000
    go true e = let l = ltb-true r 0x8000 e in rw (turn_low r l) (omega arith)
    go false e = let l = ltb-false r 0x8000 e in rw (turn_high r l h) (plus-lt 16 (r * 2 - 0x10000) (generator - 0x10000) (omega arith) (omega arith))

-- ---- p times x leaves what a turn makes of what p leaves
leaves_turn : (p r : ℕ) → Leaves 16 generator p r → Leaves 16 generator (p * 2) (turn r)
unfolding turn
leaves_turn p r d =
    let q = d.quotient in
    record {
      quotient = plus (q * 2) (r / 2 ^ 15);
      equation =
          rw (d.equation, times-plus generator (q * 2) (r / 2 ^ 15), times_double generator q, ← plus-shift 1 (times q generator) r) (simp sums);
      small = turn-lt r d.small;
    }

leaves_turns : (n p r : ℕ) → Leaves 16 generator p r → Leaves 16 generator (p * 2 ^ n) (turns n r)
leaves_turns zero p r d = rw (mul-one p) d
leaves_turns (suc n) p r d =
    let e : p * 2 ^ suc n ≡ p * 2 * 2 ^ n = rw (pow-suc 2 n, mul_comm (2 ^ n) 2, mul_assoc p 2 (2 ^ n)) in
    rw e (leaves_turns n (p * 2) (turn r) (leaves_turn p r d))

leaves_plus : (p r c : ℕ) → c < 2 ^ 16 → Leaves 16 generator p r → Leaves 16 generator (plus p c) (plus r c)
leaves_plus p r c h d =
    record {
      quotient = d.quotient;
      equation = ap (λ x. plus x c) d.equation ∙ plus_assoc (times d.quotient generator) r c;
      small = plus-lt 16 r c d.small h;
    }

-- ---- one byte more, behind bytes that form v, where i is what the initial value has become
dividend-more : (v i b : ℕ) → b < 256 → plus (plus (v * 2 ^ 16) i) (b * 2 ^ 8) * 2 ^ 8 ≡ plus ((v * 256 + b) * 2 ^ 16) (i * 2 ^ 8)
dividend-more v i b h =
    let e1 : v * 2 ^ 16 * 2 ^ 8 ≡ v * 2 ^ 8 * 2 ^ 16 = omega arith in
    let e2 : b * 2 ^ 8 * 2 ^ 8 ≡ b * 2 ^ 16 = omega arith in
    rw (
      ← plus_join v 8 b h,
      ← plus-shift 8 (plus (v * 2 ^ 16) i) (b * 2 ^ 8),
      ← plus-shift 8 (v * 2 ^ 16) i,
      ← plus-shift 16 (v * 2 ^ 8) b,
      e1,
      e2,
    ) (simp sums)

leaves_byte : (v i r b : ℕ) → b < 256 → Leaves 16 generator (plus (v * 2 ^ 16) i) r
    → Leaves 16 generator (plus ((v * 256 + b) * 2 ^ 16) (i * 2 ^ 8)) (crc_byte r b)
unfolding crc_byte
leaves_byte v i r b h d =
    rw (← dividend-more v i b h)
    (leaves_turns 8 (plus (plus (v * 2 ^ 16) i) (b * 2 ^ 8)) (plus r (b * 2 ^ 8)) (leaves_plus (plus (v * 2 ^ 16) i) r (b * 2 ^ 8) (omega arith) d))

leaves_bytes : (m : List ℕ) (v i r : ℕ) → T (are_bytes m) → Leaves 16 generator (plus (v * 2 ^ 16) i) r
    → Leaves 16 generator (plus (number_after v m * 2 ^ 16) (i * 2 ^ (8 * length m))) (crc_from r m)
leaves_bytes [] v i r h d = rw (mul-one i) d
leaves_bytes (b ∷ bs) v i r h d =
    let e : i * 2 ^ (8 * suc (length bs)) ≡ i * 2 ^ 8 * 2 ^ (8 * length bs) =
    rw (mul-suc 8 (length bs), pow-add 2 (8 * length bs) 8, mul_comm (2 ^ (8 * length bs)) (2 ^ 8), mul_assoc i (2 ^ 8) (2 ^ (8 * length bs))) in
    rw e (leaves_bytes bs (v * 256 + b) (i * 2 ^ 8) (crc_byte r b) (bytes_rest b bs h) (leaves_byte v i r b (byte_first b bs h) d))

-- ---- so after a message it holds the CRC
pub register-crc : (m : List ℕ) → T (are_bytes m) → register m ≡ crc m
unfolding dividend
register-crc m h =
    crc-only m (register m)
    (rw (bits_number m h) (leaves_bytes m 0 0x1D0F 0x1D0F h (record { quotient = 0; equation = rw (times_zero generator); small = omega arith })))
