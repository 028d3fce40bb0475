use Prim.Native.Nat.{◌-◌}
use lib.ListN.{length}
use Rattle.readers.proofs.lines.Laws.{Counts}
use Rattle.readers.proofs.lines.numbered_line.Given as goal

abbrev pub invariant-loop-at : goal.invariant-loop-at
invariant-loop-at l = Counts l.text l.n l.at l.left

abbrev pub decreases-loop-at : goal.decreases-loop-at
decreases-loop-at l = length l.text - l.at
