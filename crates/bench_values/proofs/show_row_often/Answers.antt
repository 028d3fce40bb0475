use Rattle.std.proofs.Common.{rules}
use Rattle.bench_values.proofs.Laws.{laws}
use Prim.Native.Nat.{◌-◌}
use mathlib.Core.Path.{◌≡◌}
use Rattle.bench_values.proofs.show_row_often.Goals as goal

pub returns : goal.returns
returns c = search (rules, laws)
