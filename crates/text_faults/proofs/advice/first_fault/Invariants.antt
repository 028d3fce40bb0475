use Prim.Native.Nat.{◌-◌}
use lib.ListN.{length}
use Rattle.text_faults.specs.Form.{want_of}
use Rattle.text_faults.proofs.advice.Laws.{Faultless}
use Rattle.text_faults.proofs.advice.first_fault.Given as goal

abbrev pub invariant-loop-rest : goal.invariant-loop-rest
invariant-loop-rest l = Faultless (want_of l.letter) l.s l.at l.k

abbrev pub decreases-loop-rest : goal.decreases-loop-rest
decreases-loop-rest l = length l.s - l.at
