use Rattle.xml_reader.proofs.Laws.{Picking}
use lib.ListN.{length}
use Prim.Native.Nat.{◌-◌}
use Rattle.xml_reader.proofs.put_picked.Given as goal

abbrev pub invariant-loop-rest : goal.invariant-loop-rest
invariant-loop-rest l = Picking l.initial.out l.out l.x l.w l.d l.at l.n l.here l.from l.next

abbrev pub decreases-loop-rest : goal.decreases-loop-rest
decreases-loop-rest l = length l.x - l.from
