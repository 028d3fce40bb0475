use Rattle.frame_definition.specs.Find.{Counted}
use Rattle.bench_walks.proofs.find_candidates.Given as goal

abbrev pub invariant-loop-m : goal.invariant-loop-m
invariant-loop-m l = Counted l.text l.place l.h l.n
