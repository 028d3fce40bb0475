use mathlib.Core.Path.{◌≡◌}
use Rattle.frame_text.specs.Rules.{verdict}
use Rattle.std.specs.Prelude.{Ok}
use Rattle.bench_walks.proofs.bench_find.Given as goal

abbrev pub invariant-loop : goal.invariant-loop
invariant-loop l = verdict l.text ≡ Ok tt
