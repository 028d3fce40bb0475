-- Laws of the frame in a record's body. Assumes nothing.
use mathlib.Core.Path.{◌≡◌, refl, sym, ap, ◌∙◌}
use mathlib.Core.Bool.{Bool, true, false, cond, not, ◌||◌, and-false, or-true, or-false}
use mathlib.Core.List.{List, [], ◌∷◌}
use Prim.Native.Nat.{ℕ, zero, suc, ◌+◌, ◌-◌, ◌*◌, ◌%◌, ◌^◌, ◌≤◌, ◌<◌}
use mir.Syntax.{w8, w16}
use mir.Val.{Fits, to_z, of_z, hbits}
use mir.Facts.{to_z-of_z}
use lib.IntN.{ℤ}
use lib.Signed.{mag}
use native.Mathlib.Omega.{arith}
use lib.Dec.{eqb, leb, ltb}
use lib.ListN.{length, get_or, take, drop, length-take, length-drop}
use borrow.Author.Tests.{le-leb, lt-leb, lt-ltb, le-ltb, eq-eqb, ne_eqb, eqb-false, not-true, ltb-true}
use Rattle.frame.specs.declared.Reading.{Reading}
use Rattle.frame.specs.declared.Reading.TheVariants.{Marker, Family}
use Rattle.frame.specs.declared.Rules.{Rules}
use Rattle.frame.specs.declared.Direction.{Direction}
use Rattle.frame.specs.declared.Direction.TheVariants.{Rx, Tx}
use Rattle.frame.specs.declared.Trailer.{Trailer}
use Rattle.records.specs.declared.BodyOffset.{BodyOffset}
use Rattle.frame.specs.declared.Parts.{Parts}
use Rattle.laws.proofs.Bools.{and_left, and_right}
use Rattle.laws.proofs.Lists.{tail}
use Rattle.frame.specs.Frame.{header_of, trailer_of, direction_of, success_of, region_bits, rules_of, reading_by, fields_of, header, start, trailer}
use Rattle.frame.specs.Frame.{between, middle, fields, rate_in, is_beam, beam_in, holds, is_frame, mpdu_of, beams_in, target_in, frame_of}
use Rattle.frame.specs.Frame.{frame_numbers, Parses}
use Rattle.frame.specs.Steps.{layout_of, parts_of, split_of, Inside, framed_by}
use Rattle.refusal.specs.declared.Refusal.TheVariants.{TooLong, NotAFrame, Firmware}
use Rattle.frame.specs.declared.PtiFrame.{PtiFrame}
use Rattle.radio.specs.Speed.{rate_of}
use Rattle.radio.specs.declared.beam.BeamTarget.{BeamTarget}
use Rattle.radio.specs.Beam.{beams_of, target_of, no_target}
use Rattle.radio.proofs.BeamLaws.{beams_low}
use Rattle.std.specs.Prelude.{Option, Some, None, Ok, Err}

-- ---- a choice by number
module _ {A : Type 0} (x a : ℕ) (p : A) where
  pub pick_first : (r : A) → x ≡ a → p ≡ cond (eqb x a) p r
  pick_first r e = rw (eq-eqb x a e) refl

  module _ (differs : x ≡ a → ⊥) where
    pub pick_rest : (r : A) → r ≡ cond (eqb x a) p r
    pick_rest r = rw (ne_eqb x a differs) refl

    module _ (b : ℕ) (q : A) (r : A) where
      pub pick_second : x ≡ b → q ≡ cond (eqb x a) p (cond (eqb x b) q r)
      pick_second e = rw (ne_eqb x a differs, eq-eqb x b e) refl

      pub pick_none : (x ≡ b → ⊥) → r ≡ cond (eqb x a) p (cond (eqb x b) q r)
      pick_none h = rw (ne_eqb x a differs, ne_eqb x b h) refl

-- ---- the trailer
-- as many numbers as so many bits can say
pub low_power : (w : ℕ) → w ≤ 5 → (0 < 2 ^ w) × (2 ^ w ≤ 32)
low_power zero h = (omega arith, omega arith)
low_power (suc zero) h = (omega arith, omega arith)
low_power (suc (suc zero)) h = (omega arith, omega arith)
low_power (suc (suc (suc zero))) h = (omega arith, omega arith)
low_power (suc (suc (suc (suc zero)))) h = (omega arith, omega arith)
low_power (suc (suc (suc (suc (suc zero))))) h = (omega arith, omega arith)
low_power (suc (suc (suc (suc (suc (suc w)))))) h = absurd (omega arith)

shifted : (w : ℕ) → w ≤ 5 → (1 * 2 ^ w) % 256 ≡ 2 ^ w
shifted w few = let p = low_power w few in omega arith

pub some_numbers : (w : ℕ) → w ≤ 5 → 0 < (1 * 2 ^ w) % 256
some_numbers w few = rw (shifted w few) (low_power w few).0

pub low_byte : (byte w : ℕ) → w ≤ 5 → byte % ((1 * 2 ^ w) % 256) ≡ byte % 2 ^ w
low_byte byte w few = rw (shifted w few) refl

pub fields_rx : (w : ℕ) (d : Direction) (t : List ℕ) (region : ℕ) → d ≡ Rx → region ≡ get_or t 2 0 % 2 ^ w
    → record { tag = get_or t 0 0; rssi = get_or t 1 0; region = region; channel = get_or t 3 0 % 16; protocol = get_or t 4 0 % 16 } ≡ fields_of w d t
fields_rx w d t region e is-region = rw (e, is-region) refl

pub fields_tx : (w : ℕ) (d : Direction) (t : List ℕ) (region : ℕ) → d ≡ Tx → region ≡ get_or t 1 0 % 2 ^ w
    → record { tag = get_or t 0 0; rssi = 0; region = region; channel = get_or t 2 0 % 16; protocol = get_or t 3 0 % 16 } ≡ fields_of w d t
fields_tx w d t region e is-region = rw (e, is-region) refl

-- ---- which middle bytes are a beam
module _ (rate : ℕ) (m : List ℕ) where
  pub family_short : length m < 9 → true ≡ (leb 2 (beams_of rate m) || ltb (length m) 9)
  family_short few = rw (lt-ltb (length m) 9 few) (sym (or-true (leb 2 (beams_of rate m))))

  pub family_long : (t : Bool) → 9 ≤ length m → t ≡ leb 2 (beams_of rate m) → t ≡ (leb 2 (beams_of rate m) || ltb (length m) 9)
  family_long t many is-t = rw (le-ltb (length m) 9 many) (is-t ∙ sym (or-false (leb 2 (beams_of rate m))))

  pub beam_unmarked : (reading : Reading) → (get_or m 0 0 ≡ 0x55 → ⊥) → false ≡ is_beam reading rate m
  beam_unmarked Marker other = rw (ne_eqb (get_or m 0 0) 0x55 other) refl
  beam_unmarked Family other = rw (ne_eqb (get_or m 0 0) 0x55 other) refl

  module _ (reading : Reading) (marked : get_or m 0 0 ≡ 0x55) where
    pub beam_marked : reading ≡ Marker → true ≡ is_beam reading rate m
    beam_marked e = rw (e, eq-eqb (get_or m 0 0) 0x55 marked) refl

    pub beam_family : (t : Bool) → reading ≡ Family → t ≡ (leb 2 (beams_of rate m) || ltb (length m) 9) → t ≡ is_beam reading rate m
    beam_family t e is-t = rw (e, eq-eqb (get_or m 0 0) 0x55 marked) is-t

module _ (p : Parts) where
  abbrev whole : Bool
  whole = holds p.direction p.beam p.trailer

  pub other_protocol : (p.trailer.protocol ≡ 6 → ⊥) → false ≡ whole
  other_protocol h = rw (ne_eqb p.trailer.protocol 6 h) refl

  module _ (zwave : p.trailer.protocol ≡ 6) where
    pub holds_beam : p.beam ≡ true → true ≡ whole
    holds_beam e = rw (eq-eqb p.trailer.protocol 6 zwave, e) refl

    pub holds_tag : (tag : ℕ) (r : Bool) → p.beam ≡ false → tag ≡ success_of p.direction → r ≡ eqb p.trailer.tag tag → r ≡ whole
    holds_tag tag r e is-tag is-r = rw (eq-eqb p.trailer.protocol 6 zwave, e, ← is-tag) is-r

-- ---- where the middle bytes lie
pub laid_none : (b : List ℕ) → length b ≡ 0 → None ≡ layout_of b
laid_none [] e = refl
laid_none (x ∷ xs) e = absurd (omega arith)

module _ (b : List ℕ) (h : ℕ) (is_h : h ≡ header_of (get_or b 0 0)) where
  pub laid_version : h ≡ 0 → None ≡ layout_of b
  laid_version e = rw (← is_h, eq-eqb h 0 e) refl

  pub laid-cut : length b < h → None ≡ layout_of b
  laid-cut short = rw (← is_h, le-ltb (h + trailer_of (get_or b (h - 1) 0)) (length b) (omega arith), and-false, and-false) refl

  module _ (t : ℕ) (is-t : t ≡ trailer_of (get_or b (h - 1) 0)) where
    pub laid-start : t ≡ 0 → None ≡ layout_of b
    laid-start e = rw (← is_h, ← is-t, eq-eqb t 0 e, and-false) refl

    pub laid-short : length b ≤ h + t → None ≡ layout_of b
    laid-short short = rw (← is_h, ← is-t, le-ltb (h + t) (length b) short, and-false, and-false) refl

    pub laid_out : (h ≡ 0 → ⊥) → (t ≡ 0 → ⊥) → h + t < length b → Some ((record { 0 = h }), (record { 0 = length b - t })) ≡ layout_of b
    laid_out some_h some-t long = rw (← is_h, ← is-t, ne_eqb h 0 some_h, ne_eqb t 0 some-t, lt-ltb (h + t) (length b) long) refl

-- what is known of a body whose middle bytes lie from m up to e
laid-between : (t : Bool) (x y m e : BodyOffset) → cond {A = Option (BodyOffset × BodyOffset)} t (Some (x, y)) None ≡ Some (m, e) → (t ≡ true) × ((x ≡ m) × (y ≡ e))
laid-between true x y m e h = let both : ◌≡◌ {A = BodyOffset × BodyOffset} (x, y) (m, e) = cc in (refl, (ap (λ p. p.0) both, ap (λ p. p.1) both))
laid-between false x y m e h = (cc, (cc, cc))

laid-nowhere : (t : Bool) (x y : BodyOffset) → cond {A = Option (BodyOffset × BodyOffset)} t (Some (x, y)) None ≡ None → t ≡ false
laid-nowhere true x y h = cc
laid-nowhere false x y h = refl

some_trailer : (start : ℕ) → not (eqb (trailer_of start) 0) ≡ true → 5 ≤ trailer_of start
some_trailer start = go (eqb start 0xF8) (eqb start 0xFC)
  where
    go : (a b : Bool) → not (eqb (cond a 6 (cond b 5 0)) 0) ≡ true → 5 ≤ cond a 6 (cond b 5 0)
    go true b h = omega arith
    go false true h = omega arith
    go false false h = let z : false ≡ true = h in absurd (let y : ◌≡◌ {A = ℕ} 0 1 = cc in omega arith)

pub roomy : (b : List ℕ) → between b ≡ true → (5 ≤ trailer b) × (header b + trailer b < length b)
roomy b h =
    let both = and_right (not (eqb (header b) 0)) _ h in (
      some_trailer (start b) (and_left (not (eqb (trailer b) 0)) _ both),
      ltb-true (header b + trailer b) (length b) (and_right (not (eqb (trailer b) 0)) _ both),
    )

pub split-nothing : (w : Rules) (b : List ℕ) (l : Option (BodyOffset × BodyOffset)) → l ≡ layout_of b → l ≡ None → None ≡ split_of w b
split-nothing w b l is-l e = rw (laid-nowhere (between b) (record { 0 = header b }) (record { 0 = length b - trailer b }) (sym is-l ∙ e)) refl

pub lies_so : (b : List ℕ) (l : Option (BodyOffset × BodyOffset)) (m e : BodyOffset) → l ≡ layout_of b → l ≡ Some (m, e) → layout_of b ≡ Some (m, e)
lies_so b l m e is-l lies = sym is-l ∙ lies

module _ (b : List ℕ) (m e : BodyOffset) (lies : layout_of b ≡ Some (m, e)) where
  known : (between b ≡ true) × ((record { 0 = header b } ≡ m) × (record { 0 = length b - trailer b } ≡ e))
  known = laid-between (between b) (record { 0 = header b }) (record { 0 = length b - trailer b }) m e lies

  is_m : header b ≡ m.0
  is_m = ap (λ (x : BodyOffset). x.0) known.1.0

  is_e : length b - trailer b ≡ e.0
  is_e = ap (λ (x : BodyOffset). x.0) known.1.1

  some_h : header b ≡ 0 → ⊥
  some_h = eqb-false (header b) 0 (not-true (eqb (header b) 0) (and_left (not (eqb (header b) 0)) _ known.0))

  room : (5 ≤ trailer b) × (header b + trailer b < length b)
  room = roomy b known.0

  pub middle_some : 1 ≤ m.0
  middle_some = rw (← is_m) (omega (arith, some_h))

  pub middle-ordered : m.0 ≤ e.0
  middle-ordered = omega (arith, is_m, is_e, room.1)

  pub middle_there : 0 < length (take (e.0 - m.0) (drop m.0 b))
  middle_there = rw (length-take, length-drop) (omega (arith, is_m, is_e, room.1))

  pub start-inside : m.0 - 1 < length b
  start-inside = omega (arith, is_m, room.1)

  pub end_inside : e.0 ≤ length b
  end_inside = omega (arith, is_e)

  pub trailer-room : 5 ≤ length (take (length b - e.0) (drop e.0 b))
  trailer-room = rw (tail b e.0, length-drop) (omega (arith, is_e, room.0, room.1))

  module _ (w : Rules) (d : Direction) (t : Trailer) (rate : ℕ) (beam : Bool) (is-d : d ≡ direction_of (get_or b (m.0 - 1) 0))
      (is-t : t ≡ fields_of w.width d (take (length b - e.0) (drop e.0 b))) (is-rate : rate ≡ rate_of t.channel t.region)
      (is-beam : beam ≡ is_beam w.reading rate (take (e.0 - m.0) (drop m.0 b))) where
    the_d : d ≡ direction_of (start b)
    the_d = rw (← is_m) at is-d

    the_t : t ≡ fields w.width b
    the_t =
        let parts : t ≡ fields_of w.width d (drop (length b - trailer b) b) = rw (tail b e.0, ← is_e) at is-t in
        rw the_d at parts

    the_rate : rate ≡ rate_in w.width b
    the_rate = is-rate ∙ ap (λ (x : Trailer). rate_of x.channel x.region) the_t

    the_beam : beam ≡ beam_in w b
    the_beam =
        let bytes : take (e.0 - m.0) (drop m.0 b) ≡ middle b = rw (← is_m, ← is_e) refl in
        is-beam ∙ (λ k. is_beam w.reading (the_rate k) (bytes k))

    pub parts_read : record { direction = d; middle = m; end = e; trailer = t; rate = rate; beam = beam } ≡ parts_of w b
    parts_read =
        λ k.
        record {
          direction = the_d k;
          middle = sym known.1.0 k;
          end = sym known.1.1 k;
          trailer = the_t k;
          rate = the_rate k;
          beam = the_beam k;
        }

module _ (b : List ℕ) (m e : BodyOffset) (lies : layout_of b ≡ Some (m, e)) (w : Rules) (p : Parts) (h : Bool) (is_p : p ≡ parts_of w b)
    (is_h : h ≡ holds p.direction p.beam p.trailer) where
  the_h : h ≡ is_frame w b
  the_h = let laid = known b m e lies in rw laid.0 (is_h ∙ ap (λ (x : Parts). holds x.direction x.beam x.trailer) is_p)

  pub split-not : h ≡ false → None ≡ split_of w b
  split-not none = rw (← the_h, none) refl

  pub split_into : h ≡ true → Some p ≡ split_of w b
  split_into some = rw (← the_h, some) (ap Some is_p)

-- ---- the MPDU's length
module _ (beam : Bool) (m : List ℕ) where
  pub mpdu_few : length m ≤ 7 → length m ≡ mpdu_of beam m
  mpdu_few few = rw (le-ltb 7 (length m) few, and-false) refl

  pub mpdu_beam : beam ≡ true → length m ≡ mpdu_of beam m
  mpdu_beam is-beam = rw is-beam refl

  module _ (some : 7 < length m) (no-beam : beam ≡ false) where
    pub mpdu_declared : get_or m 7 0 ≤ length m → get_or m 7 0 ≡ mpdu_of beam m
    mpdu_declared fits = rw (no-beam, lt-ltb 7 (length m) some, le-leb (get_or m 7 0) (length m) fits) refl

    pub mpdu_all : length m < get_or m 7 0 → length m ≡ mpdu_of beam m
    mpdu_all over = rw (no-beam, lt-ltb 7 (length m) some, lt-leb (get_or m 7 0) (length m) over) refl

-- ---- the beams
module _ (beam : Bool) (rate : ℕ) (m : List ℕ) where
  pub beams_some : (n : ℕ) → beam ≡ true → n ≡ beams_of rate m → Some n ≡ beams_in beam rate m
  beams_some n is-beam is-n = rw is-beam (ap Some is-n)

  pub beams_none : beam ≡ false → None ≡ beams_in beam rate m
  beams_none none = rw none refl

  module _ (reading : Reading) (t : BeamTarget) where
    pub target_first : reading ≡ Marker → t ≡ no_target → t ≡ target_in reading beam rate m
    target_first e is-t = rw e is-t

    module _ (e : reading ≡ Family) where
      pub target_beam : beam ≡ true → t ≡ target_of rate m → t ≡ target_in reading beam rate m
      target_beam is-beam is-t = rw (e, is-beam) is-t

      pub target_none : beam ≡ false → t ≡ no_target → t ≡ target_in reading beam rate m
      target_none none is-t = rw (e, none) is-t

pub beams_fit : (rate : ℕ) (m : List ℕ) (n : ℕ) → length m < 65535 → n ≡ beams_of rate m → Fits w16 n
beams_fit rate m n few is-n = omega (arith, (beams_low rate m).1)

-- ---- the frame
module _ (b : List ℕ) (p : Parts) (inside : Inside b p) where
  abbrev mid : List ℕ
  mid = take (p.end.0 - p.middle.0) (drop p.middle.0 b)

  middle-short : length mid ≤ length b
  middle-short = rw length-take (rw length-drop (omega arith))

  pub middle_few : length b < 65535 → length mid < 65535
  middle_few few = omega (arith, middle-short)

  pub mpdu_fits : (l : ℕ) → length b < 65535 → l ≤ length mid → Fits w16 l
  mpdu_fits l few low = omega (arith, middle-short)

  pub frame_is : (reading : Reading) (l : ℕ) (rssi : ℤ) (beams : Option ℕ) (target : BeamTarget) → rssi ≡ to_z w8 p.trailer.rssi
      → mag rssi < 2 ^ hbits w8 → beams ≡ beams_in p.beam p.rate mid → l ≡ mpdu_of p.beam mid
      → target ≡ target_in reading p.beam p.rate mid
      → record {
        direction = p.direction;
        region = p.trailer.region;
        channel = p.trailer.channel;
        rate = p.rate;
        rssi = to_z w8 (of_z w8 rssi);
        beams = beams;
        start = p.middle;
        length = l;
        target = target;
      } ≡ framed_by reading b p
  frame_is reading l rssi beams target is-rssi ok is-beams is-l is-target =
      let read_back : to_z w8 (of_z w8 rssi) ≡ to_z w8 p.trailer.rssi = to_z-of_z {w = w8} {z = rssi} (record { sfits = ok }) ∙ is-rssi in
      rw (is-beams, is-l, read_back, is-target) refl

-- ---- the answer
split_parts : (t : Bool) (x p : Parts) → cond t (Some x) None ≡ Some p → (t ≡ true) × (p ≡ x)
split_parts true x p h = (refl, cc)
split_parts false x p h = (cc, cc)

split-without : (t : Bool) (x : Parts) → cond t (Some x) None ≡ None → t ≡ false
split-without true x h = cc
split-without false x h = refl

module _ (w : Rules) (b : List ℕ) (r : Option Parts) (is-r : r ≡ split_of w b) where
  pub split-none : r ≡ None → is_frame w b ≡ false
  split-none e = split-without (is_frame w b) (parts_of w b) (sym is-r ∙ e)

  module _ (p : Parts) (e : r ≡ Some p) where
    the_parts : (is_frame w b ≡ true) × (p ≡ parts_of w b)
    the_parts = split_parts (is_frame w b) (parts_of w b) p (sym is-r ∙ e)

    pub split_frame : is_frame w b ≡ true
    split_frame = the_parts.0

    pub parts_in : Inside b p
    parts_in =
        let is_p = the_parts.1 in
        let r = roomy b (and_left (between b) _ the_parts.0) in
        let m : p.middle.0 ≡ header b = ap (λ (x : Parts). x.middle.0) is_p in
        let n : p.end.0 ≡ length b - trailer b = ap (λ (x : Parts). x.end.0) is_p in
        record { some = omega (arith, r.1); inside = omega arith }

    pub split-framed : (f : PtiFrame) → f ≡ framed_by w.reading b p → f ≡ frame_of w b
    split-framed f is_f = is_f ∙ ap (framed_by w.reading b) the_parts.1

pub rules_are : (firmware w : ℕ) (reading : Reading) → w ≡ region_bits firmware → record { width = w; reading = reading } ≡ rules_of firmware reading
rules_are firmware w reading is-w = rw is-w refl

pub reading_family : (family : Bool) → family ≡ true → Family ≡ reading_by family
reading_family family e = rw e refl

pub reading_marker : (family : Bool) → family ≡ false → Marker ≡ reading_by family
reading_marker family e = rw e refl

module _ (firmware : ℕ) (reading : Reading) (w : Rules) (b : List ℕ) (is-w : w ≡ rules_of firmware reading) where
  is_width : w.width ≡ region_bits firmware
  is_width = ap (λ (x : Rules). x.width) is-w

  pub parsed_unknown : w.width ≡ 0 → Parses firmware reading b (Err (Firmware firmware))
  parsed_unknown none =
      let unknown = eq-eqb (region_bits firmware) 0 (sym is_width ∙ none) in
      record { answer = rw unknown refl; numbers = rw unknown refl }

  module _ (some : w.width ≡ 0 → ⊥) where
    known_firmware : eqb (region_bits firmware) 0 ≡ false
    known_firmware = ne_eqb (region_bits firmware) 0 (λ none. some (is_width ∙ none))

    pub parsed_long : 2048 < length b → Parses firmware reading b (Err (TooLong (length b)))
    parsed_long long =
        let over = lt-leb (length b) 2048 long in
        record { answer = rw (known_firmware, over) refl; numbers = rw (known_firmware, over) refl }

    module _ (s : Option Parts) (is-s : s ≡ split_of w b) (short : length b ≤ 2048) where
      pub parsed_not : s ≡ None → Parses firmware reading b (Err NotAFrame)
      parsed_not e =
          let within = le-leb (length b) 2048 short in
          let none : is_frame (rules_of firmware reading) b ≡ false = rw is-w at (split-none w b s is-s e) in
          record { answer = rw (known_firmware, within, none) refl; numbers = rw (known_firmware, within, none) refl }

      pub parsed_frame : (p : Parts) (f : PtiFrame) → s ≡ Some p → f ≡ framed_by reading b p → Parses firmware reading b (Ok f)
      parsed_frame p f e is_f =
          let within = le-leb (length b) 2048 short in
          let whole : is_frame (rules_of firmware reading) b ≡ true = rw is-w at (split_frame w b s is-s p e) in
          let the-f : f ≡ frame_of (rules_of firmware reading) b =
          split-framed (rules_of firmware reading) b s (is-s ∙ ap (λ (x : Rules). split_of x b) is-w) p e f is_f in
          record {
            answer = rw (known_firmware, within, whole) (ap Ok the-f);
            numbers = rw (known_firmware, within, whole) (ap (λ (x : PtiFrame). (0, frame_numbers x)) the-f);
          }

pub ruleset laws = (
  pick_first,
  pick_rest,
  pick_second,
  pick_none,
  some_numbers,
  low_byte,
  fields_rx,
  fields_tx,
  family_short,
  family_long,
  beam_unmarked,
  beam_marked,
  beam_family,
  other_protocol,
  holds_beam,
  holds_tag,
  laid_none,
  laid_version,
  laid-cut,
  laid-start,
  laid-short,
  laid_out,
  split-nothing,
  middle_some,
  middle-ordered,
  middle_there,
  start-inside,
  end_inside,
  trailer-room,
  lies_so,
  parts_read,
  split-not,
  split_into,
  mpdu_few,
  mpdu_beam,
  mpdu_declared,
  mpdu_all,
  beams_some,
  beams_none,
  target_first,
  target_beam,
  target_none,
  beams_fit,
  middle_few,
  mpdu_fits,
  frame_is,
  rules_are,
  reading_family,
  reading_marker,
  parsed_unknown,
  parsed_long,
  parsed_not,
  parts_in,
  parsed_frame,
)
