use Rattle.std.proofs.Common.{rules}
use Rattle.bench_walks.proofs.Laws.{laws}
use Rattle.bench_walks.proofs.find_candidates.Goals as goal

pub loop-m-init : goal.loop-m-init
loop-m-init c = search (rules, laws)
