use Rattle.std.proofs.Common.{rules}
use Rattle.bench_values.proofs.Laws.{laws}
use Rattle.bench_values.proofs.show_often.Goals as goal

pub returns : goal.returns
returns c = search (rules, laws)
