-- The row of a number is the one that `decode_params` writes as that row of a table. Assumes nothing.
use mathlib.Core.Path.{◌≡◌, refl, sym, ◌∙◌}
use mathlib.Core.Bool.{Bool, true, false, cond}
use mathlib.Core.List.{List}
use Prim.Native.Nat.{ℕ, ◌/◌}
use native.Mathlib.Omega.{arith}
use lib.Dec.{leb, ltb}
use lib.ListN.{length}
use borrow.Author.Tests.{eqb-false}
use Rattle.refusal.proofs.Numbers.{numbered}
use Rattle.refusal.specs.Refusal.{number_of}
use Rattle.command_text.specs.Rules.{verdict}
use Rattle.command_class.specs.Definition.{definition}
use Rattle.command_rules.specs.Rows.{row_width, table, rows_in}
use Rattle.command_rules.specs.Param.{in_payload}
use Rattle.command_rules.specs.declared.Offsets.{Offsets}
use Rattle.command_rules.specs.declared.Row.{Row}
use Rattle.command_rules.specs.Walk.{walk}
use Rattle.command_rules.proofs.Rows.{table-rows}
use Rattle.command.specs.Answer.{Told, answered, refused, body_of, within, on_verdict, answer_by, answer_of, table_after, Decodes}
use Rattle.command_row.specs.Answer.{nth, row_by, row_of}
use Rattle.std.specs.Prelude.{Result, Ok, Err}
use Rattle.refusal.specs.declared.Refusal.{Refusal}

abbrev rows_by : Offsets → List ℕ → List ℕ → List Row
rows_by offsets x payload = (walk offsets (body_of payload) (definition x)).rows

module _ (offsets : Offsets) (x payload t : List ℕ) (a : Told) (t' : List ℕ) (decodes : Decodes offsets x payload t a t') (z : a.refusal ≡ 0)
    (k : ℕ) where
  -- an answer, not a refusal
  fits : (b : Bool) → a ≡ cond b (answered (length (rows_by offsets x payload)) (in_payload (walk offsets (body_of payload) (definition x)).end))
      (refused 8 (length (rows_by offsets x payload)))
      → nth k (rows_by offsets x payload) ≡ nth k (rows_in a.rows t')
  unfolding table_after
  fits true e =
      let laid : t' ≡ table t (rows_by offsets x payload) = rw z at decodes.table_is in
      rw (laid, e, table-rows t (rows_by offsets x payload)) refl
  fits false e = absurd (let n : a.refusal ≡ 8 = rw e refl in omega arith)

  long : (b c : Bool)
      → a ≡ cond b (refused 4 (length payload)) (cond c (refused 5 (length payload)) (within (walk offsets (body_of payload) (definition x)) (length t)))
      → b ≡ ltb 2048 (length payload) → c ≡ ltb (length payload) 2
      → row_by offsets (definition x) payload k ≡ nth k (rows_in a.rows t')
  unfolding row_by within
  long true c e eb ec = absurd (let n : a.refusal ≡ 4 = rw e refl in omega arith)
  long false true e eb ec = absurd (let n : a.refusal ≡ 5 = rw e refl in omega arith)
  long false false e eb ec = rw (← eb, ← ec) (fits (leb (length (rows_by offsets x payload)) (length t / row_width)) e)

  judged : (v : Result (Unit {0}) Refusal) → v ≡ verdict x → a ≡ on_verdict v (answer_by offsets (definition x) payload (length t))
      → row_of offsets x payload k ≡ nth k (rows_in a.rows t')
  unfolding row_of answer_by
  judged (Ok tt) is e = rw (← is) (long (ltb 2048 (length payload)) (ltb (length payload) 2) e refl refl)
  judged (Err r) is e = absurd (let n : a.refusal ≡ number_of r = rw e refl in eqb-false (number_of r) 0 (numbered r) (sym n ∙ z))

  -- BM5: it is the row of this number of those that stand in the table
  pub row-decoded : row_of offsets x payload k ≡ nth k (rows_in a.rows t')
  unfolding answer_of
  row-decoded = judged (verdict x) refl decodes.answer
