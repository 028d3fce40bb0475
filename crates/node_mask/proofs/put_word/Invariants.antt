use Rattle.node_mask.proofs.Laws.{Putting}
use Rattle.node_mask.proofs.put_word.Given as goal

abbrev pub invariant-loop-rest : goal.invariant-loop-rest
invariant-loop-rest l = Putting l.mask l.at l.n l.first l.initial.nodes l.nodes l.rest l.i

abbrev pub decreases-loop-rest : goal.decreases-loop-rest
decreases-loop-rest l = l.rest
