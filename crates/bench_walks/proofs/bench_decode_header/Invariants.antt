use lib.ListN.{length}
use mathlib.Core.Path.{◌≡◌}
use Rattle.bench_walks.proofs.bench_decode_header.Given as goal

abbrev pub invariant-loop : goal.invariant-loop
invariant-loop l = length l.rows ≡ length l.initial.rows
