use Prim.Native.Nat.{◌-◌}
use lib.ListN.{length}
use Rattle.sorting.proofs.Laws.{Placing}
use Rattle.sorting.proofs.write_placed.Given as goal

abbrev pub invariant-loop-at : goal.invariant-loop-at
invariant-loop-at l = Placing l.text l.starts l.initial.buffer l.buffer l.at l.out l.used

abbrev pub decreases-loop-at : goal.decreases-loop-at
decreases-loop-at l = length l.text - l.at
