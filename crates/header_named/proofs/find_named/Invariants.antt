use Prim.Native.Nat.{◌-◌}
use lib.ListN.{length}
use Rattle.header_named.proofs.Laws.{Naming}
use Rattle.header_named.proofs.find_named.Given as goal

abbrev pub invariant-loop-candidate : goal.invariant-loop-candidate
invariant-loop-candidate l = Naming l.text l.key l.number l.place l.h l.n

abbrev pub decreases-loop-candidate : goal.decreases-loop-candidate
decreases-loop-candidate l = length l.text - l.place.at
