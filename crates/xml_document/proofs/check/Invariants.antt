use Rattle.xml_document.proofs.Laws.{Sofar}
use lib.ListN.{length}
use Prim.Native.Nat.{◌-◌}
use Rattle.xml_document.proofs.check.Given as goal

abbrev pub invariant-loop-rest : goal.invariant-loop-rest
invariant-loop-rest l = Sofar l.x l.d l.at

abbrev pub decreases-loop-rest : goal.decreases-loop-rest
decreases-loop-rest l = length l.x - l.at
