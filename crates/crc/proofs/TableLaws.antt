-- Eight turns at once, by a table. Assumes nothing.
use mathlib.Core.Path.{◌≡◌, refl, sym, ap, ap₂, ◌∙◌}
use mathlib.Core.List.{List, [], ◌∷◌}
use Prim.Native.Nat.{ℕ, zero, suc, ◌+◌, ◌*◌, ◌/◌, ◌%◌, ◌^◌, ◌<◌}
use native.Mathlib.Nat.{zero-add}
use native.Mathlib.Omega.{arith}
use mir.Syntax.{w64}
use mir.Val.{Fits}
use lib.Bits.{bit_xor, xor_lt}
use lib.ListN.{get_or}
use Rattle.crc.specs.Poly.{plus}
use Rattle.crc.specs.Crc.{generator}
use Rattle.crc.specs.Register.{turn, turns, crc_byte, TurnTable}
use Rattle.crc.proofs.Sums.{sums, plus-zero, plus-shift, plus_shr, plus_block, plus_join}
use Rattle.crc.proofs.Products.{times-plus}
use Rattle.crc.proofs.Register.{turn_low}

-- ---- the table, computed: f at each of n places from i on
abbrev places : (ℕ → ℕ) → ℕ → ℕ → List ℕ
places f i zero = []
places f i (suc n) = f i ∷ places f (suc i) n

places_at : (f : ℕ → ℕ) (n i k : ℕ) → k < n → get_or (places f i n) k 0 ≡ f (i + k)
places_at f zero i k h = absurd (omega arith)
places_at f (suc n) i zero h = ap f (omega arith)
places_at f (suc n) i (suc k) h = places_at f n (suc i) k (omega arith) ∙ ap f (omega arith)

unfoldable pub turned : List ℕ
turned = places (λ k. turns 8 (k * 256)) 0 256

pub turned_right : TurnTable turned
unfolding turned
turned_right = record { entry = λ k h. places_at (λ k. turns 8 (k * 256)) 256 0 k h ∙ rw (zero-add k) }

-- ---- the turns of a sum are the sum of the turns
turn-plus : (a b : ℕ) → turn (plus a b) ≡ plus (turn a) (turn b)
unfolding turn
turn-plus a b = rw (← plus-shift 1 a b, plus_shr a b 15, times-plus generator (a / 2 ^ 15) (b / 2 ^ 15)) (simp sums)

turns-plus : (n a b : ℕ) → turns n (plus a b) ≡ plus (turns n a) (turns n b)
turns-plus zero a b = refl
turns-plus (suc n) a b = rw (turn-plus a b) (turns-plus n (turn a) (turn b))

-- what stands low is only shifted
turns-low : (a : ℕ) → a < 256 → turns 8 a ≡ a * 256
turns-low a h =
    rw (
      turn_low a (omega arith),
      turn_low (a * 2) (omega arith),
      turn_low (a * 2 * 2) (omega arith),
      turn_low (a * 2 * 2 * 2) (omega arith),
      turn_low (a * 2 * 2 * 2 * 2) (omega arith),
      turn_low (a * 2 * 2 * 2 * 2 * 2) (omega arith),
      turn_low (a * 2 * 2 * 2 * 2 * 2 * 2) (omega arith),
      turn_low (a * 2 * 2 * 2 * 2 * 2 * 2 * 2) (omega arith),
    ) (omega arith)

-- so only the top byte needs the table
byte_is : (r b : ℕ) → r < 65536 → b < 256 → crc_byte r b ≡ plus (turns 8 (plus (r / 256) b * 256)) (r % 256 * 256)
unfolding crc_byte
byte_is r b h l =
    let e : r ≡ r / 256 * 2 ^ 8 + r % 256 = omega arith in
    let d : b * 2 ^ 8 ≡ b * 2 ^ 8 + 0 = omega arith in
    let s : plus r (b * 2 ^ 8) ≡ plus (plus (r / 256) b * 2 ^ 8) (r % 256) =
    ap₂ plus e d ∙ plus_block 8 (r / 256) b (r % 256) 0 (omega arith) (omega arith) ∙ (rw (plus-zero (r % 256)))
    ∙ sym (plus_join (plus (r / 256) b) 8 (r % 256) (omega arith)) in
    ap (turns 8) s ∙ turns-plus 8 (plus (r / 256) b * 2 ^ 8) (r % 256) ∙ (rw (turns-low (r % 256) (omega arith)))

-- ---- crc_byte
pub in_table : (r b : ℕ) → r < 65536 → b < 256 → bit_xor (r / 256) b < 256
in_table r b h l = xor_lt 8 (r / 256) b (omega arith) l

pub place_fits : (r b : ℕ) → r < 65536 → b < 256 → Fits w64 (bit_xor (r / 256) b)
place_fits r b h l = let k = in_table r b h l in record { fits = omega arith }

pub offset_fits : (r b : ℕ) → r < 65536 → b < 256 → Fits w64 (bit_xor (r / 256) b * 2)
offset_fits r b h l = let k = in_table r b h l in record { fits = omega arith }

pub by_table : (t : List ℕ) (r b : ℕ) → TurnTable t → r < 65536 → b < 256 → bit_xor (get_or t (bit_xor (r / 256) b) 0) (r * 256 % 65536) ≡ crc_byte r b
unfolding plus
by_table t r b table h l =
    let k = bit_xor (r / 256) b in
    let e : r * 256 % 65536 ≡ r % 256 * 256 = omega arith in
    rw (table.entry k (in_table r b h l), e) (sym (byte_is r b h l))

pub ruleset table_laws = (in_table, place_fits, offset_fits, by_table)
