use Prim.Native.Nat.{◌-◌}
use lib.ListN.{length}
use Rattle.overlaps.proofs.Laws.{Counting}
use Rattle.overlaps.proofs.headers.find_header.Given as goal

abbrev pub invariant-loop-head : goal.invariant-loop-head
invariant-loop-head l = Counting l.text l.number l.left l.place

abbrev pub decreases-loop-head : goal.decreases-loop-head
decreases-loop-head l = length l.text - l.place.at
