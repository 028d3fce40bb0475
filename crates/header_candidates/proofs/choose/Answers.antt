use Rattle.std.proofs.Common.{rules}
use Rattle.header_candidates.proofs.Laws.{laws}
use Prim.Native.Nat.{◌-◌}
use Rattle.header_candidates.proofs.choose.Goals as goal

pub loop-candidate-init : goal.loop-candidate-init
loop-candidate-init c = search (rules, laws)

pub returns-in-Some-try_candidate : goal.returns-in-Some-try_candidate
returns-in-Some-try_candidate c = search (rules, laws)

pub loop-candidate-preserved : goal.loop-candidate-preserved
loop-candidate-preserved c = search (rules, laws)

pub returns : goal.returns
returns c = search (rules, laws)
