-- Laws of the counts of frames. Assumes nothing.
use mathlib.Core.Path.{◌≡◌, refl, sym, ap, ◌∙◌}
use mathlib.Core.Bool.{Bool, true, false, cond, not}
use mathlib.Core.List.{List, [], ◌∷◌}
use Prim.Native.Nat.{ℕ, ◌+◌, ◌-◌, ◌*◌, ◌^◌, ◌≤◌, ◌<◌}
use native.Mathlib.Omega.{arith}
use mir.Syntax.{w64}
use mir.Val.{Fits}
use lib.Dec.{eqb, leb, ltb}
use lib.ListN.{length, get_or, take, drop, length-replicate, length-take, get_or-replicate, get_or-eq_default}
use borrow.Author.Tests.{le-leb, lt-leb, eq-eqb, ne_eqb, ltb-true, ltb-false, not-true, not-false}
use Rattle.refusal.specs.declared.Refusal.{Refusal}
use Rattle.refusal.specs.declared.Refusal.TheVariants.{TooLong, PastLimit, Firmware}
use Rattle.refusal.specs.Refusal.{number_of}
use Rattle.frame_text.specs.Rules.{verdict}
use Rattle.radio.proofs.SpeedLaws.{rate_low}
use Rattle.records.specs.declared.Span.{Span}
use Rattle.records.specs.Records.{bodies_from}
use Rattle.records.specs.Steps.{Follows}
use Rattle.records.proofs.Laws.{led, body_nearer, after-fits}
use Rattle.frame.specs.declared.Parts.{Parts}
use Rattle.frame.specs.declared.Reading.{Reading}
use Rattle.frame.specs.declared.Rules.{Rules}
use Rattle.frame.specs.declared.PtiFrame.{PtiFrame}
use Rattle.frame.specs.Frame.{region_bits, rules_of, is_frame, frame_of, fields, beams_number}
use Rattle.frame.specs.Steps.{split_of, framed_by}
use Rattle.frame.proofs.Ranges.{mpdu_inside}
use Rattle.frame.proofs.Laws.{split_frame, split-none, split-framed, parts_in}
use Rattle.pti.specs.Payload.{row_of, rows_in, rows_of}
use Rattle.pti.specs.Steps.{Within, bytes_in}
use Rattle.pti.proofs.Laws.{within_end, leads-within}
use Rattle.header_rules.specs.Table.{most_numbers}
use Rattle.header.specs.declared.DecodedHeader.{DecodedHeader}
use Rattle.header.specs.Decode.{decoded}
use Rattle.totals.specs.Totals.{size, refused_counts, header_counts, beam_counts, frame_counts, raised_by, within, Adds}
use Rattle.totals.specs.Steps.{zeros, tally, tally_rows, Room, Tallies, Lies, framed_in, body_counts, plus, AddsSums}
use Rattle.totals.proofs.Sums.{adds_none, adds_both, adds_within, grown, length-rows, room_less, sum_laws}
use Rattle.totals.proofs.Keys.{key_low}
use Rattle.std.specs.Prelude.{Option, Some, None, Result, Ok, Err}

-- ---- a header
pub heading-counted : (h : DecodedHeader) (rate n : ℕ) (a b c : List ℕ) → Tallies 1 ((h.key * 4 + rate, 1) ∷ []) a b
    → Tallies 1 ((1024, n) ∷ []) b c → n ≡ cond h.right 0 1 → Tallies 2 (header_counts rate (Ok h)) a c
heading-counted h rate n a b c p q e =
    rw e at (adds_both 1 1 ((h.key * 4 + rate, 1) ∷ []) ((1024, n) ∷ []) a b c p q)

pub beam_counted : (n : ℕ) (a b c : List ℕ) → Tallies 1 ((1025, 1) ∷ []) a b → Tallies 1 ((1026, n) ∷ []) b c → Tallies 2 (beam_counts n) a c
beam_counted n a b c p q = adds_both 1 1 ((1025, 1) ∷ []) ((1026, n) ∷ []) a b c p q

module _ (x : Refusal) (n : ℕ) (is : n ≡ number_of x) where
  pub refused-low : (a : List ℕ) → n < 5 → Tallies 1 (refused_counts (number_of x)) a a
  refused-low a h = rw (← is, lt-leb 5 n h) (adds_none 1 a)

  pub refused_high : (a : List ℕ) → 5 ≤ n → 7 < n → Tallies 1 (refused_counts (number_of x)) a a
  refused_high a l h = rw (← is, le-leb 5 n l, lt-leb n 7 h) (adds_none 1 a)

  pub refused_one : (a b : List ℕ) → Tallies 1 ((1023 + n, 1) ∷ []) a b → 5 ≤ n → n ≤ 7 → Tallies 1 (refused_counts (number_of x)) a b
  refused_one a b p l h = rw (← is, le-leb 5 n l, le-leb n 7 h) p

module _ (t d : List ℕ) (region speed : ℕ) (r : Result DecodedHeader Refusal) (answer_is : r ≡ decoded t d region speed most_numbers) where
  pub header_key : (h : DecodedHeader) → r ≡ Ok h → h.key < 256
  header_key h e = key_low t d region speed most_numbers h (sym answer_is ∙ e)

  pub header-counted : (h : DecodedHeader) (a b : List ℕ) → Tallies 2 (header_counts speed (Ok h)) a b → r ≡ Ok h
      → Tallies 2 (header_counts speed (decoded t d region speed most_numbers)) a b
  header-counted h a b p e = rw (← answer_is, e) p

  pub header_refused : (x : Refusal) (a b : List ℕ) → Tallies 1 (refused_counts (number_of x)) a b → r ≡ Err x
      → Tallies 2 (header_counts speed (decoded t d region speed most_numbers)) a b
  header_refused x a b p e = rw (← answer_is, e) (adds_within 1 2 (refused_counts (number_of x)) a b p (omega arith))

-- ---- a frame
module _ (t : List ℕ) (region : ℕ) (s : List ℕ) (body : ℕ) (f : PtiFrame) (n : ℕ) (is : n ≡ beams_number f.beams) where
  pub frame_header : (at end : ℕ) (a b c : List ℕ) → Tallies 1 ((1027, f.length) ∷ []) a b
      → Tallies 2 (header_counts f.rate (decoded t (take (end - at) (drop at s)) region f.rate most_numbers)) b c → at ≡ body + f.start.0
      → end ≡ at + f.length → n ≡ 0 → Tallies 3 (frame_counts t region s (row_of 0 body f)) a c
  unfolding frame_counts
  frame_header at end a b c p q is_at is-end none =
      let e : end - at ≡ f.length = omega arith in
      let all =
      adds_both 1 2 ((1027, f.length) ∷ []) (header_counts f.rate (decoded t (take (end - at) (drop at s)) region f.rate most_numbers)) a b c p q in
      rw (eq-eqb (beams_number f.beams) 0 (sym is ∙ none)) (rw (e, is_at) at all)

  pub frame_beam : (a b c : List ℕ) → Tallies 1 ((1027, f.length) ∷ []) a b → Tallies 2 (beam_counts n) b c → (n ≡ 0 → ⊥)
      → Tallies 3 (frame_counts t region s (row_of 0 body f)) a c
  unfolding frame_counts
  frame_beam a b c p q some =
      let all = adds_both 1 2 ((1027, f.length) ∷ []) (beam_counts n) a b c p q in
      rw (ne_eqb (beams_number f.beams) 0 (λ z. some (is ∙ z))) (rw is at all)

module _ (s : List ℕ) (body : ℕ) (f : PtiFrame) (lies : Lies s body f) where
  pub start_fits : length s * 1 < 2 ^ 63 → body + f.start.0 < 2 ^ 64
  start_fits few = omega (arith, lies.inside)

  pub end_fits : (at : ℕ) → at ≡ body + f.start.0 → length s * 1 < 2 ^ 63 → Fits w64 (at + f.length)
  end_fits at is few = omega (arith, lies.inside)

  pub end_inside : (at : ℕ) → at ≡ body + f.start.0 → at + f.length ≤ length s
  end_inside at is = omega (arith, lies.inside)

-- ---- a body
module _ (w : Rules) (b : List ℕ) (x : Option Parts) (is_x : x ≡ split_of w b) where
  pub framed-none : x ≡ None → None ≡ framed_in w b
  framed-none e = rw (split-none w b x is_x e) refl

  pub framed_one : (p : Parts) (f : PtiFrame) → f ≡ framed_by w.reading b p → x ≡ Some p → Some f ≡ framed_in w b
  framed_one p f is_f e = rw (split_frame w b x is_x p e) (ap Some (split-framed w b x is_x p e f is_f))

is_framed : (t : Bool) (f g : PtiFrame) → cond t (Some f) None ≡ Some g → (t ≡ true) × (g ≡ f)
is_framed true f g e = (refl, cc)
is_framed false f g e = (cc, cc)

not-framed : (t : Bool) (f : PtiFrame) → cond t (Some f) None ≡ None → t ≡ false
not-framed true f e = cc
not-framed false f e = refl

module _ (w : Rules) (t : List ℕ) (region : ℕ) (s : List ℕ) (b : Span) (x : Option PtiFrame) (is_x : x ≡ framed_in w (bytes_in s b)) where
  pub body-none : (a : List ℕ) → x ≡ None → Tallies 3 (body_counts w t region s b) a a
  body-none a e = rw (not-framed (is_frame w (bytes_in s b)) (frame_of w (bytes_in s b)) (sym is_x ∙ e)) (adds_none 3 a)

  module _ (f : PtiFrame) (e : x ≡ Some f) where
    one : (is_frame w (bytes_in s b) ≡ true) × (f ≡ frame_of w (bytes_in s b))
    one = is_framed (is_frame w (bytes_in s b)) (frame_of w (bytes_in s b)) f (sym is_x ∙ e)

    pub body-counted : (a c : List ℕ) → Tallies 3 (frame_counts t region s (row_of 0 b.start.0 f)) a c → Tallies 3 (body_counts w t region s b) a c
    body-counted a c q = rw one.0 (rw one.1 at q)

    pub body_lies : Within s b → Lies s b.start.0 f
    body_lies within =
        let few : length (bytes_in s b) ≤ b.end.0 - b.start.0 = rw length-take (omega arith) in
        rw one.1
        (record {
          rate = omega (arith, rate_low (fields w.width (bytes_in s b)).channel (fields w.width (bytes_in s b)).region);
          inside = omega (arith, mpdu_inside w (bytes_in s b) one.0, within.ordered, within.before);
        })

pub body-short : (s : List ℕ) (b : Span) → Within s b → length (bytes_in s b) < 65535
body-short s b within = rw length-take (omega (arith, within.before, within.short))

pub body-ordered : (s : List ℕ) (b : Span) → Within s b → b.start.0 ≤ b.end.0
body-ordered s b within = within.ordered

-- ---- body by body: with those that are left counted, the sums are those of all rows; the next body has some number
pub record Counting (w : Rules) (t : List ℕ) (region : ℕ) (s sums : List ℕ) (at : ℕ) : Type 0 where
  pub number : ℕ
  pub rest : tally_rows (frame_counts t region s) sums (rows_in w s number (bodies_from s at))
      ≡ tally_rows (frame_counts t region s) zeros (rows_of w s)
  pub room : Room (3 * (65540 - at)) sums
  pub some : 0 < at

room-zeros : Room (3 * (65540 - 1)) zeros
room-zeros i = go (ltb i size) refl
  where
    zero_at : (b : Bool) → ltb i size ≡ b → get_or zeros i 0 ≡ 0
    zero_at true e = get_or-replicate {A = ℕ} size i 0 0 (ltb-true i size e)
    zero_at false e =
        let past : length zeros ≤ i = rw (length-replicate {A = ℕ} size 0) (ltb-false i size e) in
        get_or-eq_default zeros 0 past

    go : (b : Bool) → ltb i size ≡ b → get_or zeros i 0 + 3 * (65540 - 1) * 65536 < 2 ^ 64
    go b e = let z = zero_at b e in omega arith

pub counting_starts : (w : Rules) (t : List ℕ) (region : ℕ) (s sums : List ℕ) → sums ≡ zeros → Counting w t region s sums 1
counting_starts w t region s sums e = rw e (record { number = 0; rest = refl; room = room-zeros; some = omega arith })

module _ (w : Rules) (t : List ℕ) (region : ℕ) (s sums : List ℕ) (at : ℕ) (inv : Counting w t region s sums at) (r : Option Span)
    (follows : Follows s at r) where
  pub counting_done : r ≡ None
      → sums ≡ tally_rows (frame_counts t region s) zeros (rows_of w s)
  unfolding rows_in tally_rows
  counting_done e = let none : bodies_from s at ≡ [] = rw e at follows in rw none at inv.rest

  module _ (b : Span) (is_b : r ≡ Some b) (short : length s ≤ 65535) where
    pub counting_within : Within s b
    counting_within = leads-within s at b (led s at r b follows is_b) (omega (arith, inv.some)) short

    pub counting_room : Room 3 sums
    counting_room =
        let l = led s at r b follows is_b in
        room_less 3 (3 * (65540 - at)) sums inv.room (omega (arith, l.after, l.ordered, l.inside))

    pub counting_more : (sums' : List ℕ) → Tallies 3 (body_counts w t region s b) sums sums' → Counting w t region s sums' (b.end.0 + 2)
    unfolding rows_in tally_rows frame_counts
    counting_more sums' counted =
        let l = led s at r b follows is_b in
        record {
          number = inv.number + 1;
          rest = go (is_frame w (bytes_in s b)) counted.is (rw l.first at inv.rest);
          room =
              counted.room (3 * (65540 - (b.end.0 + 2)))
              (room_less (3 + 3 * (65540 - (b.end.0 + 2))) (3 * (65540 - at)) sums inv.room (omega (arith, l.after, l.ordered, l.inside)));
          some = omega arith;
        }
      where
        counts : List ℕ → List (ℕ × ℕ)
        counts = frame_counts t region s

        others : List (List ℕ)
        others = rows_in w s (inv.number + 1) (bodies_from s (b.end.0 + 2))

        row : ℕ → List ℕ
        row k = row_of k b.start.0 (frame_of w (bytes_in s b))

        go : (y : Bool) → sums' ≡ tally sums (cond y (counts (row 0)) [])
            → tally_rows counts sums (cond y (row inv.number ∷ others) others) ≡ tally_rows counts zeros (rows_of w s)
            → tally_rows counts sums' others ≡ tally_rows counts zeros (rows_of w s)
        go true is all = rw is all
        go false is all = rw is all

pub length-counted : (f : List ℕ → List (ℕ × ℕ)) (rs : List (List ℕ)) (sums : List ℕ) → sums ≡ tally_rows f zeros rs → length sums ≡ size
length-counted f rs sums e = ap length e ∙ length-rows f zeros rs ∙ length-replicate {A = ℕ} size 0

-- ---- within the limit, or not
module _ (totals sums : List ℕ) (over : Bool) (is : over ≡ not (within (plus totals sums))) where
  pub sums_fit : over ≡ false → within (plus totals sums) ≡ true
  sums_fit e = not-false (within (plus totals sums)) (sym is ∙ e)

  pub sums_past : over ≡ true → AddsSums totals sums (Err PastLimit) totals
  sums_past e =
      let no = not-true (within (plus totals sums)) (sym is ∙ e) in
      record { answer = rw no refl; after = rw no refl }

  pub sums_added : (totals' : List ℕ) → totals' ≡ plus totals sums → over ≡ false → AddsSums totals sums (Ok tt) totals'
  sums_added totals' e h = let yes = sums_fit h in record { answer = rw yes refl; after = rw yes e }

-- ---- the answer
module _ (firmware : ℕ) (reading : Reading) (w : Rules) (t : List ℕ) (region : ℕ) (s totals : List ℕ) (is-w : w ≡ rules_of firmware reading) where
  bits : w.width ≡ region_bits firmware
  bits = ap (λ (x : Rules). x.width) is-w

  pub adds_unknown : w.width ≡ 0 → Adds firmware reading t region s totals (Err (Firmware firmware)) totals
  adds_unknown none = record { answer = rw (← bits, eq-eqb w.width 0 none) refl; after = refl }

  module _ (some : w.width ≡ 0 → ⊥) where
    known : eqb (region_bits firmware) 0 ≡ false
    known = rw (← bits) (ne_eqb w.width 0 some)

    pub adds_judged : (v : Result (Unit {0}) Refusal) (x : Refusal) → v ≡ verdict t → v ≡ Err x → Adds firmware reading t region s totals (Err x) totals
    adds_judged v x is e = record { answer = rw (known, sym is ∙ e) refl; after = refl }

    module _ (accepted : verdict t ≡ Ok tt) where
      pub adds_long : 65535 < length s → Adds firmware reading t region s totals (Err (TooLong (length s))) totals
      adds_long long = record { answer = rw (known, accepted, lt-leb (length s) 65535 long) refl; after = refl }

      abbrev after : List ℕ
      after = raised_by (rules_of firmware reading) t region s totals

      pub adds_sums : (sums : List ℕ) (r : Result (Unit {0}) Refusal) (totals' : List ℕ) → AddsSums totals sums r totals'
          → sums ≡ tally_rows (frame_counts t region s) zeros (rows_of w s) → length totals ≡ size → length s ≤ 65535
          → Adds firmware reading t region s totals r totals'
      adds_sums sums r totals' adds counted full short =
          let counts : sums ≡ tally_rows (frame_counts t region s) zeros (rows_of (rules_of firmware reading) s) = rw is-w at counted in
          let all : plus totals sums ≡ after = rw counts (grown (frame_counts t region s) (rows_of (rules_of firmware reading) s) totals full) in
          go (within after) refl (rw all at adds.answer) (rw all at adds.after)
        where
          fits : leb (length s) 65535 ≡ true
          fits = le-leb (length s) 65535 short

          go : (b : Bool) → within after ≡ b → r ≡ cond b (Ok tt) (Err PastLimit) → totals' ≡ cond b after totals
              → Adds firmware reading t region s totals r totals'
          go true e is now = record { answer = rw (known, accepted, fits, e) is; after = rw is now }
          go false e is now = record { answer = rw (known, accepted, fits, e) is; after = rw is now }

pub accepted-text : (t : List ℕ) (v : Result (Unit {0}) Refusal) → v ≡ verdict t → v ≡ Ok tt → verdict t ≡ Ok tt
accepted-text t v e q = sym e ∙ q

-- what the proofs of the functions go by
pub ruleset laws = (
  sum_laws,
  heading-counted,
  refused-low,
  refused_high,
  refused_one,
  header_key,
  header-counted,
  header_refused,
  frame_header,
  beam_counted,
  frame_beam,
  start_fits,
  end_fits,
  end_inside,
  parts_in,
  framed-none,
  framed_one,
  body-none,
  body-counted,
  body_lies,
  body-short,
  body-ordered,
  within_end,
  body_nearer,
  after-fits,
  counting_starts,
  counting_done,
  counting_within,
  counting_room,
  counting_more,
  length-counted,
  adds_unknown,
  adds_judged,
  adds_long,
  sums_fit,
  sums_past,
  sums_added,
  adds_sums,
  accepted-text,
)
