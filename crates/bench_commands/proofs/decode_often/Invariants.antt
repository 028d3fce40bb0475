use lib.ListN.{length}
use mathlib.Core.Path.{◌≡◌}
use Rattle.bench_commands.proofs.decode_often.Given as goal

abbrev pub invariant-loop : goal.invariant-loop
invariant-loop l = length l.rows ≡ length l.initial.rows
