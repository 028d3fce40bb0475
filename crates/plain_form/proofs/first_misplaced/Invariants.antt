use Prim.Native.Nat.{◌-◌}
use lib.ListN.{length}
use Rattle.plain_form.proofs.Laws.{Sofar}
use Rattle.plain_form.proofs.first_misplaced.Given as goal

abbrev pub invariant-loop-rest : goal.invariant-loop-rest
invariant-loop-rest l = Sofar l.text l.at l.line l.far

abbrev pub decreases-loop-rest : goal.decreases-loop-rest
decreases-loop-rest l = length l.text - l.at
