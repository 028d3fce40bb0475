-- How large the numbers of a frame can be. Assumes nothing.
use mathlib.Core.Path.{◌≡◌, refl, ap}
use mathlib.Core.Bool.{Bool, true, false, cond, not, ◌&&◌}
use mathlib.Core.List.{List, [], ◌∷◌}
use Prim.Native.Nat.{ℕ, zero, suc, ◌+◌, ◌-◌, ◌%◌, ◌^◌, ◌≤◌, ◌<◌}
use native.Mathlib.Nat.{mod-lt}
use native.Mathlib.Omega.{arith}
use mir.Syntax.{w8}
use mir.Val.{to_z, of_z}
use mir.Facts.{of_z-to_z}
use lib.Dec.{eqb, leb, ltb}
use lib.ListN.{length, get_or, take, drop, length-take, length-drop}
use lib.Seq.{get_or-drop}
use borrow.Author.Tests.{leb-true}
use Rattle.laws.proofs.Bools.{and_left}
use Rattle.radio.proofs.SpeedLaws.{rate_low}
use Rattle.radio.proofs.BeamLaws.{beams_low}
use Rattle.frame.specs.declared.Direction.{Direction}
use Rattle.frame.specs.declared.Direction.TheVariants.{Rx, Tx}
use Rattle.frame.specs.declared.Trailer.{Trailer}
use Rattle.frame.specs.declared.PtiFrame.{PtiFrame}
use Rattle.frame.specs.declared.Rules.{Rules}
use Rattle.frame.specs.Frame.{header_of, header, trailer, start, direction_of, fields_of, fields, middle, between, rate_in, beam_in, is_frame, mpdu_of}
use Rattle.frame.specs.Frame.{beams_in, frame_of, direction_number, beams_number}
use Rattle.frame.proofs.Laws.{roomy, low_power}

-- every element is a byte, as of a slice of u8
abbrev pub Bytes : List ℕ → Type 0
Bytes s = (i : ℕ) → get_or s i 0 < 256

pub bytes_drop : (n : ℕ) (s : List ℕ) → Bytes s → Bytes (drop n s)
bytes_drop n s all i = rw (get_or-drop n s i 0) (all (n + i))

pub bytes_take : (n : ℕ) (s : List ℕ) → Bytes s → Bytes (take n s)
bytes_take zero s all i = omega arith
bytes_take (suc n) [] all i = omega arith
bytes_take (suc n) (x ∷ xs) all zero = all 0
bytes_take (suc n) (x ∷ xs) all (suc i) = bytes_take n xs (λ j. all (suc j)) i

-- the numbers of a trailer
pub record SmallTrailer (t : Trailer) : Type 0 where
  pub region : t.region < 32
  pub channel : t.channel < 16
  pub rssi : t.rssi < 256

small_region : (byte w : ℕ) → w ≤ 5 → byte % 2 ^ w < 32
small_region byte w few = let p = low_power w few in omega (arith, mod-lt byte {m = 2 ^ w} p.0)

small_fields : (w : ℕ) (d : Direction) (t : List ℕ) → w ≤ 5 → Bytes t → SmallTrailer (fields_of w d t)
small_fields w Rx t few all = record { region = small_region (get_or t 2 0) w few; channel = omega arith; rssi = all 1 }
small_fields w Tx t few all = record { region = small_region (get_or t 1 0) w few; channel = omega arith; rssi = omega arith }

-- the MPDU is a part of the middle bytes
mpdu_low : (beam : Bool) (m : List ℕ) → mpdu_of beam m ≤ length m
mpdu_low beam m = go (not beam) (ltb 7 (length m)) (leb (get_or m 7 0) (length m)) (leb-true (get_or m 7 0) (length m))
  where
    go : (a b c : Bool) → (c ≡ true → get_or m 7 0 ≤ length m) → cond (a && (b && c)) (get_or m 7 0) (length m) ≤ length m
    go false b c h = omega arith
    go true false c h = omega arith
    go true true false h = omega arith
    go true true true h = h refl

-- the numbers of the frame in a body, which counts its beam as long as the body at most
pub record Small (n : ℕ) (f : PtiFrame) : Type 0 where
  pub direction : direction_number f.direction < 2
  pub region : f.region < 32
  pub channel : f.channel < 16
  pub rate : f.rate < 4
  pub rssi : of_z w8 f.rssi < 256
  pub sign : to_z w8 (of_z w8 f.rssi) ≡ f.rssi
  pub beams : beams_number f.beams ≤ n
  pub start : f.start.0 < 20
  pub length : f.length ≤ n

direction_low : (d : Direction) → direction_number d < 2
direction_low Rx = omega arith
direction_low Tx = omega arith

header-low : (version : ℕ) → header_of version < 20
header-low version = go (eqb version 2) (eqb version 3)
  where
    go : (a b : Bool) → cond a 12 (cond b 19 0) < 20
    go true b = omega arith
    go false true = omega arith
    go false false = omega arith

pub small : (w : Rules) (b : List ℕ) → w.width ≤ 5 → Bytes b → is_frame w b ≡ true → Small (length b) (frame_of w b)
small w b narrow all whole =
    let t = small_fields w.width (direction_of (start b)) (drop (length b - trailer b) b) narrow (bytes_drop (length b - trailer b) b all) in
    let room = roomy b (and_left (between b) _ whole) in
    let few : 1 + length (middle b) ≤ length b = rw (length-take, length-drop) (omega (arith, room.0, room.1)) in
    let f = fields w.width b in
    let back : of_z w8 (to_z w8 f.rssi) ≡ f.rssi = of_z-to_z {w = w8} {n = f.rssi} (record { fits = t.rssi }) in
    record {
      direction = direction_low (direction_of (start b));
      region = t.region;
      channel = t.channel;
      rate = omega (arith, rate_low f.channel f.region);
      rssi = rw back t.rssi;
      sign = ap (to_z w8) back;
      beams = counted (beam_in w b) (rate_in w.width b) (middle b) (length b) few;
      start = header-low (get_or b 0 0);
      length = omega (arith, mpdu_low (beam_in w b) (middle b));
    }
  where
    counted : (beam : Bool) (rate : ℕ) (m : List ℕ) (n : ℕ) → 1 + length m ≤ n → beams_number (beams_in beam rate m) ≤ n
    counted true rate m n few = omega (arith, (beams_low rate m).1)
    counted false rate m n few = omega arith

-- a frame's body has a header, a middle byte and a trailer
pub frame_long : (w : Rules) (b : List ℕ) → is_frame w b ≡ true → 18 ≤ length b
frame_long w b whole =
    let is-between = and_left (between b) _ whole in
    let room = roomy b is-between in
    let some = some_header (get_or b 0 0) (and_left (not (eqb (header b) 0)) _ is-between) in
    omega arith
  where
    some_header : (version : ℕ) → not (eqb (header_of version) 0) ≡ true → 12 ≤ header_of version
    some_header version = go (eqb version 2) (eqb version 3)
      where
        go : (a c : Bool) → not (eqb (cond a 12 (cond c 19 0)) 0) ≡ true → 12 ≤ cond a 12 (cond c 19 0)
        go true c h = omega arith
        go false true h = omega arith
        go false false h = absurd (let z : ◌≡◌ {A = ℕ} 0 1 = cc in omega arith)

-- the MPDU lies inside the body
pub mpdu_inside : (w : Rules) (b : List ℕ) → is_frame w b ≡ true → (frame_of w b).start.0 + (frame_of w b).length ≤ length b
mpdu_inside w b whole =
    let room = roomy b (and_left (between b) _ whole) in
    let few : length (middle b) ≤ length b - trailer b - header b = rw length-take (omega arith) in
    omega (arith, mpdu_low (beam_in w b) (middle b))
