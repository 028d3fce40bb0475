use Prim.Native.Nat.{◌-◌}
use lib.ListN.{length}
use Rattle.xml_elements.proofs.Laws.{Writing}
use Rattle.xml_elements.proofs.append_lines.Given as goal

abbrev pub invariant-loop-rest : goal.invariant-loop-rest
invariant-loop-rest l = Writing l.text l.buffer l.initial.buffer l.next l.at l.start l.place

abbrev pub decreases-loop-rest : goal.decreases-loop-rest
decreases-loop-rest l = length l.text - l.start
