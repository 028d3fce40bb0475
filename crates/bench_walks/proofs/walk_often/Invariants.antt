use lib.ListN.{length}
use mathlib.Core.Path.{◌≡◌}
use Rattle.bench_walks.proofs.walk_often.Given as goal

abbrev pub invariant-loop : goal.invariant-loop
invariant-loop l = length l.scratch ≡ length l.initial.scratch
