use Rattle.std.proofs.Common.{rules}
use native.Mathlib.Omega.{arith}
use Rattle.header_paths.proofs.Choice.{choosing_early, choosing_better, choosing_worse, choice_laws}
use Rattle.header_paths.proofs.order.next_field.Goals as goal
use Rattle.header_paths.proofs.order.next_field.Goals.{then-is_better, else-is_better}

pub loop-j-preserved-then-level-deep : goal.loop-j-preserved-then-level-deep
loop-j-preserved-then-level-deep c = search (rules, choice_laws)

pub loop-j-preserved-then-is_before : goal.loop-j-preserved-then-is_before
loop-j-preserved-then-is_before c =
    choosing_early _ _ _ _ _ _ _ _ _ c.loop-j.invariant _ c.is_before.ensures c.if-is_before.true (omega arith) (omega arith) (omega arith) (omega arith)

pub loop-j-preserved : goal.loop-j-preserved
loop-j-preserved c =
    elim c.if-is_better.branch [
      | then-is_better w ↦ rw (w.best-is, w.least-is)
          (choosing_better _ _ _ _ _ _ _ _ _ c.loop-j.invariant _ c.is_before.ensures _ c.is_better.ensures
          c.if-is_before.false w.if-is_better.true (omega arith) (omega arith) (omega arith) (omega arith) (omega arith))
      | else-is_better w ↦ rw (w.best-is, w.least-is)
          (choosing_worse _ _ _ _ _ _ _ _ _ c.loop-j.invariant _ c.is_before.ensures _ c.is_better.ensures
          c.if-is_before.false w.if-is_better.false (omega arith) (omega arith) (omega arith) (omega arith) (omega arith))
    ]
