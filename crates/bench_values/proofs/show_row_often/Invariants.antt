use lib.ListN.{length}
use mathlib.Core.Path.{◌≡◌}
use Rattle.bench_values.proofs.show_row_often.Given as goal

abbrev pub invariant-loop : goal.invariant-loop
invariant-loop l = length l.buffer ≡ length l.initial.buffer
