use Prim.Native.Nat.{◌-◌}
use lib.ListN.{length}
use Rattle.totals.proofs.Laws.{Counting}
use Rattle.totals.proofs.count_frames.Given as goal

abbrev pub invariant-loop-span : goal.invariant-loop-span
invariant-loop-span l = Counting l.rules l.text l.region l.payload l.sums l.at

abbrev pub decreases-loop-span : goal.decreases-loop-span
decreases-loop-span l = length l.payload - l.at
