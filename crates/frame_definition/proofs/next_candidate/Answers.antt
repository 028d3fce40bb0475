use Rattle.std.proofs.Common.{rules}
use Rattle.frame_definition.proofs.Candidates.{look_laws}
use Rattle.frame_definition.proofs.next_candidate.Goals as goal

pub loop-place-preserved-then-kind-ne72 : goal.loop-place-preserved-then-kind-ne72
loop-place-preserved-then-kind-ne72 c = search (rules, look_laws)

pub loop-place-preserved-then-not-is_based : goal.loop-place-preserved-then-not-is_based
loop-place-preserved-then-not-is_based c = search (rules, look_laws)

pub read_candidate-requires : goal.read_candidate-requires
read_candidate-requires c = search (rules, look_laws)

pub returns-then-has_validation : goal.returns-then-has_validation
returns-then-has_validation c = search (rules, look_laws)

pub loop-place-preserved : goal.loop-place-preserved
loop-place-preserved c = search (rules, look_laws)
