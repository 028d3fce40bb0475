use Prim.Native.Nat.{◌-◌}
use lib.ListN.{length}
use Rattle.records.proofs.Laws.{Counting}
use Rattle.records.proofs.count_records.Given as goal

abbrev pub invariant-loop-span : goal.invariant-loop-span
invariant-loop-span l = Counting l.payload l.count l.at

abbrev pub decreases-loop-span : goal.decreases-loop-span
decreases-loop-span l = length l.payload - l.at
