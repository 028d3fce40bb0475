-- The first cap records are lent, filled and come back before the others: so the whole table is filled from its start. Assumes nothing.
use Rattle.std.proofs.Common.{◌≡◌, ℕ, ◌≤◌, List, ◌++◌, length, take, drop, sym, ap, ◌∙◌, append_assoc, arith, take-append-drop, length-take-le}
use lib.Seq.{drop-append-le}
use Rattle.screen.specs.declared.FrameRecord.{FrameRecord}
use Rattle.screen.specs.Screen.{records_of, fillable_of, Filled}
use Rattle.screen.proofs.Laws.{fillable_bounds}
use Rattle.frame_requests.specs.Screen.{FilledFirst}
use Rattle.frame_requests.proofs.frame_table.fill_first.Goals as goal

module _ (xs : List FrameRecord) (rs : List ℕ) (n cap : ℕ) (few : cap ≤ length xs) where
  lent_long : length (take cap xs) ≡ cap
  lent_long = length-take-le cap xs few

  filled_first : (m : ℕ) (zs : List FrameRecord) → Filled rs n (take cap xs) m zs
      → FilledFirst xs rs n cap (record { records = zs ++ drop cap xs; filled = m })
  filled_first m zs f =
      let count : m ≡ fillable_of n cap (length rs) = rw lent_long at f.count in
      let l : m ≤ length (take cap xs) = omega (arith, fillable_bounds n cap (length rs), lent_long) in
      record {
        count = count;
        table = rw (f.table, append_assoc) (ap (λ (l : List FrameRecord). records_of m rs ++ l)
            (sym (drop-append-le m (take cap xs) (drop cap xs) l) ∙ ap (λ (l : List FrameRecord). drop m l) (take-append-drop cap xs)));
      }

pub returns : goal.returns
returns c = filled_first c.args.records c.args.rows.now c.args.n c.args.cap (omega arith) _ _ c.fill_frames-filled.ensures
