-- The counts by key and rate, the beams and those that were refused are the frames, each counted once (TO8). Assumes nothing.
use mathlib.Core.Path.{◌≡◌, refl, ◌∙◌}
use mathlib.Core.Bool.{Bool, true, false, cond}
use mathlib.Core.List.{List, [], ◌∷◌}
use Prim.Native.Nat.{ℕ, zero, suc, ◌+◌, ◌*◌, ◌≤◌, ◌<◌}
use native.Mathlib.Omega.{arith}
use lib.Dec.{eqb, leb, ltb}
use lib.ListN.{length, get_or, drop, length-replicate, get_or-replicate, length-take}
use borrow.Author.Tests.{eqb-true, eqb-false, ltb-true, ltb-false, leb-true, leb-false, lt-ltb, le-ltb, ne_eqb}
use Rattle.refusal.specs.declared.Refusal.TheVariants.{TooLong, Firmware}
use Rattle.refusal.specs.Refusal.{number_of}
use Rattle.text.specs.Print.{Every}
use Rattle.frame_text.specs.Rules.{verdict}
use Rattle.records.specs.Records.{bodies, bytes_of}
use Rattle.frame.specs.declared.Reading.{Reading}
use Rattle.frame.specs.declared.Rules.{Rules}
use Rattle.frame.specs.Frame.{region_bits, rules_of, is_frame, frame_of, fields}
use Rattle.frame.proofs.Ranges.{Bytes}
use Rattle.radio.proofs.SpeedLaws.{rate_low}
use Rattle.pti.specs.Payload.{row_of, rows_in, rows_of, Placed, AllPlaced}
use Rattle.pti.proofs.Laws.{located}
use Rattle.header_rules.specs.Table.{most_numbers}
use Rattle.header.specs.Decode.{decoded}
use Rattle.totals.specs.Totals.{size, bytes_at, refused_counts, header_counts, beam_counts, rate_in, beams_in, mpdu_in, kind_counts}
use Rattle.totals.specs.Totals.{frame_counts, amount_at, grown_at, growth, judged, added_of, totals_after}
use Rattle.totals.specs.Steps.{zeros}
use Rattle.totals.specs.Runs.{sum_below, counted, after_run, onto, taken, growth_of, frames_of}
use Rattle.totals.proofs.Keys.{key_low, OnlyThree, only_three}
use Rattle.totals.proofs.Runs.{run-sum}
use Rattle.std.specs.Prelude.{Result, Ok, Err}
use Rattle.header.specs.declared.DecodedHeader.{DecodedHeader}
use Rattle.refusal.specs.declared.Refusal.{Refusal}

-- ---- sums of sums
below_both : (n : ℕ) (f g : ℕ → ℕ) → sum_below n (λ (i : ℕ). f i + g i) ≡ sum_below n f + sum_below n g
unfolding sum_below
below_both zero f g = refl
below_both (suc n) f g = omega (arith, below_both n f g)

below_none : (n : ℕ) → sum_below n (λ (i : ℕ). 0) ≡ 0
unfolding sum_below
below_none zero = refl
below_none (suc n) = omega (arith, below_none n)

below-same : (n : ℕ) (f g : ℕ → ℕ) → ((i : ℕ) → i < n → f i ≡ g i) → sum_below n f ≡ sum_below n g
unfolding sum_below
below-same zero f g e = refl
below-same (suc n) f g e = omega (arith, e n (omega arith), below-same n f g (λ i h. e i (omega arith)))

-- an amount at one place
below_one : (n p a : ℕ) → sum_below n (λ (i : ℕ). cond (eqb p i) a 0) ≡ cond (ltb p n) a 0
unfolding sum_below
below_one zero p a = rw (le-ltb p 0 (omega arith)) refl
below_one (suc n) p a = go (eqb p n) refl (ltb p n) refl (below_one n p a)
  where
    go : (b : Bool) → eqb p n ≡ b → (c : Bool) → ltb p n ≡ c → sum_below n (λ (i : ℕ). cond (eqb p i) a 0) ≡ cond (ltb p n) a 0
        → cond b a 0 + sum_below n (λ (i : ℕ). cond (eqb p i) a 0) ≡ cond (ltb p (suc n)) a 0
    go true e c q ih =
        let z : p ≡ n = eqb-true p n e in
        let none : sum_below n (λ (i : ℕ). cond (eqb p i) a 0) ≡ 0 = ih ∙ rw (le-ltb p n (omega arith)) refl in
        rw (none, lt-ltb p (suc n) (omega arith)) (omega arith)
    go false e true q ih =
        let low = ltb-true p n q in
        let some : sum_below n (λ (i : ℕ). cond (eqb p i) a 0) ≡ a = ih ∙ rw q refl in
        rw (lt-ltb p (suc n) (omega arith)) (omega arith)
    go false e false q ih =
        let high = ltb-false p n q in
        let other : p ≡ n → ⊥ = eqb-false p n e in
        let none : sum_below n (λ (i : ℕ). cond (eqb p i) a 0) ≡ 0 = ih ∙ rw q refl in
        rw (le-ltb p (suc n) (past p n high other)) (omega arith)
      where
        past : (p n : ℕ) → n ≤ p → (p ≡ n → ⊥) → suc n ≤ p
        past p n h o = apart (leb (suc n) p) refl
          where
            apart : (b : Bool) → leb (suc n) p ≡ b → suc n ≤ p
            apart true e = leb-true (suc n) p e
            apart false e = let l = leb-false (suc n) p e in absurd (o (omega arith))

counted-both : (f g : ℕ → ℕ) → counted (λ (i : ℕ). f i + g i) ≡ counted f + counted g
counted-both f g = omega (arith, below_both 1024 f g)

counted_none : counted (λ (i : ℕ). 0) ≡ 0
counted_none = omega (arith, below_none 1024)

-- what an amount at a place counts
abbrev weight : ℕ → ℕ → ℕ
weight p a = cond (ltb p 1024) a 0 + cond (eqb p 1025) a 0 + cond (eqb p 1028) a 0 + cond (eqb p 1029) a 0 + cond (eqb p 1030) a 0

weights : List (ℕ × ℕ) → ℕ
weights [] = 0
weights (p ∷ ps) = weight p.0 p.1 + weights ps

counted_weights : (ps : List (ℕ × ℕ)) → counted (λ (i : ℕ). amount_at i ps) ≡ weights ps
unfolding weights
counted_weights [] = counted_none
counted_weights (p ∷ ps) =
    omega (arith, counted-both (λ (i : ℕ). cond (eqb p.0 i) p.1 0) (λ (i : ℕ). amount_at i ps), below_one 1024 p.0 p.1, counted_weights ps)

-- ---- each frame counts 1
key_weight : (p : ℕ) → p < 1024 → weight p 1 ≡ 1
key_weight p h =
    rw (
      lt-ltb p 1024 h,
      ne_eqb p 1025 (λ e. omega arith),
      ne_eqb p 1028 (λ e. omega arith),
      ne_eqb p 1029 (λ e. omega arith),
      ne_eqb p 1030 (λ e. omega arith),
    ) refl

refused_weight : (n : ℕ) → 5 ≤ n → n ≤ 7 → weights (refused_counts n) ≡ 1
unfolding weights
refused_weight n l h = go (eqb n 5) refl (eqb n 6) refl
  where
    go : (a : Bool) → eqb n 5 ≡ a → (b : Bool) → eqb n 6 ≡ b → weights (refused_counts n) ≡ 1
    go true p b q = rw (eqb-true n 5 p) refl
    go false p true q = rw (eqb-true n 6 q) refl
    go false p false q = let z : n ≡ 7 = seven in rw z refl
      where
        seven : n ≡ 7
        seven = last (leb n 6) refl
          where
            last : (c : Bool) → leb n 6 ≡ c → n ≡ 7
            last true e = let few = leb-true n 6 e in absurd (lower (leb n 5) refl few)
              where
                lower : (d : Bool) → leb n 5 ≡ d → n ≤ 6 → ⊥
                lower true f few = let g = leb-true n 5 f in eqb-false n 5 p (omega arith)
                lower false f few = let g = leb-false n 5 f in eqb-false n 6 q (omega arith)
            last false e = let many = leb-false n 6 e in omega arith

header_weight : (t d : List ℕ) (region rate : ℕ) → verdict t ≡ Ok tt → length d ≤ 2048 → rate < 4
    → weights (header_counts rate (decoded t d region rate most_numbers)) ≡ 1
unfolding weights
header_weight t d region rate accepted few low =
    go (decoded t d region rate most_numbers) (λ h e. key_low t d region rate most_numbers h e) (only_three t d region rate accepted few)
  where
    go : (r : Result DecodedHeader Refusal) → ((h : _) → r ≡ Ok h → h.key < 256) → OnlyThree r → weights (header_counts rate r) ≡ 1
    go (Ok h) key three =
        let k : h.key < 256 = key h refl in
        rw (key_weight (h.key * 4 + rate) (omega arith)) refl
    go (Err x) key three = refused_weight (number_of x) three.0 three.1

-- a row of a payload whose MPDU is not too long and whose rate is one of four
abbrev Fair : List ℕ → Type 0
Fair row = (rate_in row < 4) × (get_or row 7 0 ≤ 2048)

-- its bytes count nothing here
bytes_weight : (n : ℕ) (ps : List (ℕ × ℕ)) → weights ps ≡ 1 → weights ((bytes_at, n) ∷ ps) ≡ 1
unfolding weights
bytes_weight n ps e = omega arith

beam_weight : (n : ℕ) → weights (beam_counts n) ≡ 1
unfolding weights
beam_weight n = refl

kind_weight : (t : List ℕ) (region : ℕ) (s row : List ℕ) → verdict t ≡ Ok tt → Fair row → weights (kind_counts t region s row) ≡ 1
kind_weight t region s row accepted fair =
    go (eqb (beams_in row) 0) (header_counts (rate_in row) (decoded t (mpdu_in s row) region (rate_in row) most_numbers))
    (header_weight t (mpdu_in s row) region (rate_in row) accepted few fair.0)
  where
    few : length (mpdu_in s row) ≤ 2048
    few = rw (length-take (get_or row 7 0) (drop (get_or row 6 0) s)) (omega (arith, fair.1))

    go : (b : Bool) (ps : List (ℕ × ℕ)) → weights ps ≡ 1 → weights (cond b ps (beam_counts (beams_in row))) ≡ 1
    go true ps e = e
    go false ps e = beam_weight (beams_in row)

frame_weight : (t : List ℕ) (region : ℕ) (s row : List ℕ) → verdict t ≡ Ok tt → Fair row → weights (frame_counts t region s row) ≡ 1
unfolding frame_counts
frame_weight t region s row accepted fair = bytes_weight _ (kind_counts t region s row) (kind_weight t region s row accepted fair)

-- ---- and so do all
rows_weight : (t : List ℕ) (region : ℕ) (s : List ℕ) (rs : List (List ℕ)) → verdict t ≡ Ok tt → Every Fair rs
    → counted (grown_at (frame_counts t region s) rs) ≡ length rs
rows_weight t region s [] accepted fair = counted_none
rows_weight t region s (r ∷ rs) accepted fair =
    omega (
      arith,
      counted-both (λ (i : ℕ). amount_at i (frame_counts t region s r)) (grown_at (frame_counts t region s) rs),
      counted_weights (frame_counts t region s r),
      frame_weight t region s r accepted fair.0,
      rows_weight t region s rs accepted fair.1,
    )

rates_fair : (w : Rules) (s : List ℕ) (k : ℕ) (bs : List (ℕ × ℕ)) → Every (λ (r : List ℕ). rate_in r < 4) (rows_in w s k bs)
unfolding rows_in
rates_fair w s k [] = tt
rates_fair w s k (b ∷ bs) = go (is_frame w (bytes_of s b)) (rates_fair w s (k + 1) bs)
  where
    row : List ℕ
    row = row_of k b.0 (frame_of w (bytes_of s b))

    low : rate_in row < 4
    low = omega (arith, rate_low (fields w.width (bytes_of s b)).channel (fields w.width (bytes_of s b)).region)

    go : (t : Bool) → Every (λ (r : List ℕ). rate_in r < 4) (rows_in w s (k + 1) bs)
        → Every (λ (r : List ℕ). rate_in r < 4) (cond t (row ∷ rows_in w s (k + 1) bs) (rows_in w s (k + 1) bs))
    go true rest = (low, rest)
    go false rest = rest

all_fair : (s : List ℕ) (rs : List (List ℕ)) → Bytes s → Every (λ (r : List ℕ). rate_in r < 4) rs → AllPlaced s rs → Every Fair rs
all_fair s [] all rates placed = tt
all_fair s (r ∷ rs) all rates placed =
    let p : Placed s r = placed.0 in
    let byte = all (get_or r 9 0 + 1) in
    ((rates.0, omega (arith, p.behind, p.before)), all_fair s rs all rates.1 placed.1)

-- TO8: of a payload
pub frames-counted : (w : Rules) (t : List ℕ) (region : ℕ) (s : List ℕ) → verdict t ≡ Ok tt → length s ≤ 65535 → Bytes s
    → counted (growth w t region s) ≡ length (rows_of w s)
frames-counted w t region s accepted short all =
    rows_weight t region s (rows_of w s) accepted (all_fair s (rows_of w s) all (rates_fair w s 0 (bodies s)) (located w s short).placed)

-- ---- of a run
module _ (firmware : ℕ) (reading : Reading) (t : List ℕ) (region : ℕ) where
  -- what is counted is neither too long nor by a text that is refused
  counted_by : (s totals : List ℕ) → added_of firmware reading t region s totals ≡ Ok tt → (verdict t ≡ Ok tt) × (length s ≤ 65535)
  counted_by s totals e = go (eqb (region_bits firmware) 0) (verdict t) (leb (length s) 65535) _ refl e
    where
      go : (unknown : Bool) (v : Result (Unit {0}) Refusal) (short : Bool) (r : Result (Unit {0}) Refusal) → leb (length s) 65535 ≡ short
          → cond unknown (Err (Firmware firmware)) (judged v (cond short r (Err (TooLong (length s))))) ≡ Ok tt
          → (v ≡ Ok tt) × (length s ≤ 65535)
      go true v short r c q = absurd (let z : ◌≡◌ {A = ℕ} 0 1 = cc in omega arith)
      go false (Err x) short r c q = absurd (let z : ◌≡◌ {A = ℕ} 0 1 = cc in omega arith)
      go false (Ok tt) false r c q = absurd (let z : ◌≡◌ {A = ℕ} 0 1 = cc in omega arith)
      go false (Ok tt) true r c q = (refl, leb-true (length s) 65535 c)

  -- TO8: what the payloads that are not refused add to these counts are their frames
  pub run-counted : (ss : List (List ℕ)) (totals : List ℕ) → Every Bytes ss
      → counted (growth_of firmware reading t region (taken firmware reading t region ss totals))
      ≡ frames_of firmware reading t region (taken firmware reading t region ss totals)
  run-counted [] totals all = counted_none
  run-counted (s ∷ ss) totals all = go (added_of firmware reading t region s totals) refl (λ l. run-counted ss l all.1)
    where
      go : (r : Result (Unit {0}) Refusal) → added_of firmware reading t region s totals ≡ r
          → ((l : List ℕ) → counted (growth_of firmware reading t region (taken firmware reading t region ss l))
          ≡ frames_of firmware reading t region (taken firmware reading t region ss l))
          → counted (growth_of firmware reading t region
          (onto firmware reading t region r s (taken firmware reading t region ss (totals_after (rules_of firmware reading) t region s totals r))))
          ≡ frames_of firmware reading t region
          (onto firmware reading t region r s (taken firmware reading t region ss (totals_after (rules_of firmware reading) t region s totals r)))
      go (Ok tt) e ih =
          let by = counted_by s totals e in
          let rest = taken firmware reading t region ss (totals_after (rules_of firmware reading) t region s totals (Ok tt)) in
          omega (
            arith,
            counted-both (growth (rules_of firmware reading) t region s) (growth_of firmware reading t region rest),
            frames-counted (rules_of firmware reading) t region s by.0 by.1 all.0,
            ih (totals_after (rules_of firmware reading) t region s totals (Ok tt)),
          )
      go (Err x) e ih = ih totals

  -- TO8: the counts of a capture's totals are the frames of its payloads that are not refused
  pub capture_counted : (ss : List (List ℕ)) → Every Bytes ss
      → counted (λ (i : ℕ). get_or (after_run firmware reading t region ss zeros) i 0)
      ≡ frames_of firmware reading t region (taken firmware reading t region ss zeros)
  capture_counted ss all =
      omega (
        arith,
        run-counted ss zeros all,
        below-same 1024 (λ (i : ℕ). get_or (after_run firmware reading t region ss zeros) i 0)
            (growth_of firmware reading t region (taken firmware reading t region ss zeros))
            (λ i h. at i (omega arith)),
        at 1025 (omega arith),
        at 1028 (omega arith),
        at 1029 (omega arith),
        at 1030 (omega arith),
      )
    where
      at : (i : ℕ) → i < size → get_or (after_run firmware reading t region ss zeros) i 0
          ≡ growth_of firmware reading t region (taken firmware reading t region ss zeros) i
      at i h =
          let z : get_or zeros i 0 ≡ 0 = get_or-replicate {A = ℕ} size i 0 0 h in
          omega (arith, run-sum firmware reading t region ss zeros i (rw (length-replicate {A = ℕ} size 0) h))
