-- Both readings of beams list the same frames of a payload in which no middle bytes start with the marker: BF4 (docs/RULES.md). Assumes nothing.
use mathlib.Core.Path.{◌≡◌, refl, sym, ◌∙◌}
use mathlib.Core.Bool.{Bool, true, false, cond}
use mathlib.Core.List.{List, [], ◌∷◌}
use Prim.Native.Nat.{ℕ, ◌+◌}
use lib.Dec.{eqb}
use lib.ListN.{length}
use Rattle.refusal.specs.declared.Refusal.TheVariants.{Firmware}
use Rattle.records.specs.Records.{bodies, bytes_of}
use Rattle.frame.specs.declared.Reading.{Reading}
use Rattle.frame.specs.declared.Reading.TheVariants.{Marker, Family}
use Rattle.frame.specs.declared.Rules.{Rules}
use Rattle.frame.specs.Frame.{region_bits, rules_of, is_frame, frame_of}
use Rattle.frame.proofs.Readings.{is_read, frame_read}
use Rattle.pti.specs.Payload.{row_of, rows_in, rows_of, UnmarkedIn, Parses}
use Rattle.pti.proofs.Same.{frames-same, said_same, table_same, located_same}
use Rattle.std.specs.Prelude.{Result, Err}
use Rattle.refusal.specs.declared.Refusal.{Refusal}

rows_read_lem : (firmware : ℕ) (s : List ℕ) (k : ℕ) (bs : List (ℕ × ℕ)) → UnmarkedIn s bs
    → rows_in (rules_of firmware Marker) s k bs ≡ rows_in (rules_of firmware Family) s k bs
unfolding rows_in
rows_read_lem firmware s k [] unmarked = refl
rows_read_lem firmware s k (b ∷ bs) unmarked =
    go (is_frame first body) refl (is_frame second body) (is_read firmware body unmarked.0) (rows_read_lem firmware s (k + 1) bs unmarked.1)
  where
    first : Rules
    first = rules_of firmware Marker

    second : Rules
    second = rules_of firmware Family

    body : List ℕ
    body = bytes_of s b

    go : (y : Bool) → is_frame first body ≡ y → (z : Bool) → y ≡ z → rows_in first s (k + 1) bs ≡ rows_in second s (k + 1) bs
        → cond y (row_of k b.0 (frame_of first body) ∷ rows_in first s (k + 1) bs) (rows_in first s (k + 1) bs)
        ≡ cond z (row_of k b.0 (frame_of second body) ∷ rows_in second s (k + 1) bs) (rows_in second s (k + 1) bs)
    go false e z is rest = rw (← is) rest
    go true e z is rest = let frame = frame_read firmware body unmarked.0 e in rw (← is) (λ i. row_of k b.0 (frame i) ∷ rest i)

-- an answer by other rules of the same firmware, by which the payload has the same rows
module _ (firmware : ℕ) (from to : Reading) (s t : List ℕ) (same : rows_of (rules_of firmware from) s ≡ rows_of (rules_of firmware to) s) where
  moved : (r : Result ℕ Refusal) (t' : List ℕ) → Parses firmware from s t r t' → Parses firmware to s t r t'
  moved r t' p =
      let frames = frames-same (rules_of firmware from) (rules_of firmware to) s same (length t) in
      let said = said_same (rules_of firmware from) (rules_of firmware to) s same (length t) in
      record {
        answer = p.answer ∙ (λ k. cond (eqb (region_bits firmware) 0) (Err (Firmware firmware)) (frames k));
        numbers = p.numbers ∙ (λ k. cond (eqb (region_bits firmware) 0) (13, firmware) (said k));
        table = p.table ∙ table_same (rules_of firmware from) (rules_of firmware to) s same t r;
        located = located_same (rules_of firmware from) (rules_of firmware to) s same r p.located;
      }

module _ (firmware : ℕ) (s t : List ℕ) (unmarked : UnmarkedIn s (bodies s)) (r : Result ℕ Refusal) (t' : List ℕ) where
  -- what `parse_payload` answers and leaves by the first reading it answers and leaves by the second
  pub payload_read : Parses firmware Marker s t r t' → Parses firmware Family s t r t'
  payload_read = moved firmware Marker Family s t (rows_read_lem firmware s 0 (bodies s) unmarked) r t'

  -- and so the other way round
  pub payload_read_back : Parses firmware Family s t r t' → Parses firmware Marker s t r t'
  payload_read_back = moved firmware Family Marker s t (sym (rows_read_lem firmware s 0 (bodies s) unmarked)) r t'
