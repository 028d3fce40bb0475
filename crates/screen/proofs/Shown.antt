-- The frame records that are filled from the rows of a payload are the payload's frames, field by field: F19 (docs/RULES.md). Assumes nothing.
use mathlib.Core.Path.{◌≡◌, refl, sym, ap, ◌∙◌}
use mathlib.Core.Bool.{Bool, true, false, cond, not}
use mathlib.Core.List.{List, [], ◌∷◌, ◌++◌}
use Prim.Native.Nat.{ℕ, ◌+◌, ◌-◌, ◌/◌, ◌%◌, ◌≤◌}
use native.Mathlib.Omega.{arith}
use mir.Syntax.{w8}
use mir.Val.{to_z, of_z}
use lib.Dec.{eqb, leb}
use lib.ListN.{length, drop, length-append}
use Rattle.rows.specs.Rows.{flat}
use Rattle.records.specs.Records.{bodies, bytes_of}
use Rattle.frame.specs.declared.PtiFrame.{PtiFrame}
use Rattle.frame.specs.declared.Reading.{Reading}
use Rattle.frame.specs.declared.Rules.{Rules}
use Rattle.frame.specs.Frame.{region_bits, rules_of, is_frame, frame_of, direction_number, beams_number}
use Rattle.frame.proofs.Ranges.{Bytes, bytes_take, bytes_drop, Small, small}
use Rattle.refusal.specs.declared.Refusal.{Refusal}
use Rattle.refusal.specs.declared.Refusal.TheVariants.{TooLong, MoreRows, Firmware}
use Rattle.pti.specs.Payload.{row_width, row_of, rows_in, rows_of, Parses}
use Rattle.pti.proofs.Laws.{wide}
use Rattle.screen.specs.declared.FrameRecord.{FrameRecord}
use Rattle.screen.specs.Screen.{record_of, records_of, Filled, shown_of, shown_in}
use Rattle.screen.proofs.Laws.{fillable_all}
use Rattle.std.specs.Prelude.{Ok, Err}

-- one row, whatever stands behind it
shown-row : (number body n : ℕ) (f : PtiFrame) (more : List ℕ) → Small n f → record_of (row_of number body f ++ more) ≡ shown_of number body f
unfolding record_of
shown-row number body n f more low =
    let d : direction_number f.direction % 256 ≡ direction_number f.direction = omega (arith, low.direction) in
    let r : f.region % 256 ≡ f.region = omega (arith, low.region) in
    let c : f.channel % 256 ≡ f.channel = omega (arith, low.channel) in
    let e : f.rate % 256 ≡ f.rate = omega (arith, low.rate) in
    let byte : of_z w8 f.rssi % 256 ≡ of_z w8 f.rssi = omega (arith, low.rssi) in
    let sign : to_z w8 (of_z w8 f.rssi % 256) ≡ f.rssi = ap (to_z w8) byte ∙ low.sign in
    λ k. record {
      direction = d k;
      region = r k;
      channel = c k;
      rate = e k;
      rssi = sign k;
      is_beam = not (eqb (beams_number f.beams) 0);
      beams = beams_number f.beams;
      start = body + f.start.0;
      length = f.length;
      number = number;
      place = body - 3;
      node = f.target.node;
      hash = f.target.hash;
      power = f.target.power;
    }

module _ (w : Rules) (s : List ℕ) (narrow : w.width ≤ 5) (all : Bytes s) where
  part_bytes : (b : ℕ × ℕ) → Bytes (bytes_of s b)
  part_bytes b = bytes_take b.1 (drop b.0 s) (bytes_drop b.0 s all)

  -- the rows of some bodies, whatever stands behind them
  shown-rows : (k : ℕ) (bs : List (ℕ × ℕ)) (more : List ℕ)
      → records_of (length (rows_in w s k bs)) (flat (rows_in w s k bs) ++ more) ≡ shown_in w s k bs
  unfolding rows_in
  shown-rows k [] more = refl
  shown-rows k (b ∷ bs) more = go (is_frame w (bytes_of s b)) refl (shown-rows (k + 1) bs more)
    where
      row : List ℕ
      row = row_of k b.0 (frame_of w (bytes_of s b))

      others : List (List ℕ)
      others = rows_in w s (k + 1) bs

      go : (t : Bool) → is_frame w (bytes_of s b) ≡ t → records_of (length others) (flat others ++ more) ≡ shown_in w s (k + 1) bs
          → records_of (length (cond t (row ∷ others) others)) (flat (cond t (row ∷ others) others) ++ more)
          ≡ cond t (shown_of k b.0 (frame_of w (bytes_of s b)) ∷ shown_in w s (k + 1) bs) (shown_in w s (k + 1) bs)
      go false e ih = ih
      go true e ih =
          let first = shown-row k b.0 (length (bytes_of s b)) (frame_of w (bytes_of s b)) (flat others ++ more)
          (small w (bytes_of s b) narrow (part_bytes b) e) in
          λ i. first i ∷ ih i

answered : (u a b : Bool) (k n : ℕ) (x y z : Refusal) → Ok n ≡ cond u (Err z) (cond a (cond b (Ok k) (Err x)) (Err y))
    → (n ≡ k) × (a ≡ true)
answered true a b k n x y z e = (cc, cc)
answered false true true k n x y z e = (cc, refl)
answered false true false k n x y z e = (cc, refl)
answered false false b k n x y z e = (cc, cc)

narrow_bits : (firmware : ℕ) → region_bits firmware ≤ 5
narrow_bits firmware = go (eqb firmware 2) (eqb firmware 3)
  where
    go : (a b : Bool) → cond a 4 (cond b 5 0) ≤ 5
    go true b = omega arith
    go false true = omega arith
    go false false = omega arith

-- `parse_payload` and `fill_frames`, one after the other: the records are the payload's frames, and behind them what stood there
pub shown : (firmware : ℕ) (reading : Reading) (s t t' : List ℕ) (n m : ℕ) (entry exit : List FrameRecord) → Bytes s
    → Parses firmware reading s t (Ok n) t' → Filled t' n entry m exit → n ≤ length entry
    → (m ≡ n) × (exit ≡ shown_in (rules_of firmware reading) s 0 (bodies s) ++ drop n entry)
shown firmware reading s t t' n m entry exit all parses fills room =
    let w = rules_of firmware reading in
    let rows = rows_of w s in
    let known =
    answered (eqb (region_bits firmware) 0) (leb (length s) 65535) (leb (length rows) (length t / row_width)) (length rows) n
    (MoreRows (length rows)) (TooLong (length s)) (Firmware firmware) parses.answer in
    let is-n : n ≡ length rows = known.0 in
    let size : length t' ≡ length (flat rows) + length (drop (length (flat rows)) t) = ap length parses.table ∙ length-append (flat rows) _ in
    let fits : n ≤ length t' / row_width = omega (arith, wide w s 0 (bodies s)) in
    let is_m : m ≡ n = fills.count ∙ sym (fillable_all n (length entry) (length t') room fits) in
    let front : records_of n t' ≡ shown_in w s 0 (bodies s) =
    rw (is-n, parses.table)
    (shown-rows w s (narrow_bits firmware) all 0 (bodies s) (drop (length (flat rows)) t)) in
    (is_m, fills.table ∙ rw (is_m, front) refl)
