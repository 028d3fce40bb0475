-- Both firmwares tell the same frames of a payload whose regions have no fifth bit: FV3 (docs/RULES.md). Assumes nothing.
use mathlib.Core.Path.{◌≡◌, refl, sym, ◌∙◌}
use mathlib.Core.Bool.{cond}
use mathlib.Core.List.{List, [], ◌∷◌}
use Prim.Native.Nat.{ℕ, ◌+◌}
use lib.ListN.{length}
use Rattle.records.specs.Records.{bodies, bytes_of}
use Rattle.frame.specs.declared.Reading.{Reading}
use Rattle.frame.specs.Frame.{rules_of}
use Rattle.frame.proofs.Firmware.{is_agree, frame_agree}
use Rattle.pti.specs.Payload.{row_of, rows_in, rows_of, FourBitsIn, Parses}
use Rattle.pti.proofs.Same.{frames-same, said_same, table_same, located_same}
use Rattle.std.specs.Prelude.{Result}
use Rattle.refusal.specs.declared.Refusal.{Refusal}

rows_agree : (reading : Reading) (s : List ℕ) (k : ℕ) (bs : List (ℕ × ℕ)) → FourBitsIn s bs
    → rows_in (rules_of 2 reading) s k bs ≡ rows_in (rules_of 3 reading) s k bs
unfolding rows_in
rows_agree reading s k [] four = refl
rows_agree reading s k (b ∷ bs) four =
    let is = is_agree reading (bytes_of s b) four.0 in
    let frame = frame_agree reading (bytes_of s b) four.0 in
    let rest = rows_agree reading s (k + 1) bs four.1 in
    λ i. cond (is i) (row_of k b.0 (frame i) ∷ rest i) (rest i)

module _ (reading : Reading) (s t : List ℕ) (four : FourBitsIn s (bodies s)) (r : Result ℕ Refusal) (t' : List ℕ) where
  same : rows_of (rules_of 2 reading) s ≡ rows_of (rules_of 3 reading) s
  same = rows_agree reading s 0 (bodies s) four

  -- what `parse_payload` answers and leaves for firmware 2 it answers and leaves for firmware 3
  pub payload-agree : Parses 2 reading s t r t' → Parses 3 reading s t r t'
  payload-agree p =
      record {
        answer = p.answer ∙ frames-same (rules_of 2 reading) (rules_of 3 reading) s same (length t);
        numbers = p.numbers ∙ said_same (rules_of 2 reading) (rules_of 3 reading) s same (length t);
        table = p.table ∙ table_same (rules_of 2 reading) (rules_of 3 reading) s same t r;
        located = located_same (rules_of 2 reading) (rules_of 3 reading) s same r p.located;
      }

  -- and so the other way round
  pub payload-agree_back : Parses 3 reading s t r t' → Parses 2 reading s t r t'
  payload-agree_back p =
      record {
        answer = p.answer ∙ frames-same (rules_of 3 reading) (rules_of 2 reading) s (sym same) (length t);
        numbers = p.numbers ∙ said_same (rules_of 3 reading) (rules_of 2 reading) s (sym same) (length t);
        table = p.table ∙ table_same (rules_of 3 reading) (rules_of 2 reading) s (sym same) t r;
        located = located_same (rules_of 3 reading) (rules_of 2 reading) s (sym same) r p.located;
      }
