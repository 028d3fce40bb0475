use Rattle.std.proofs.Common.{rules}
use Rattle.text_faults.proofs.advice.Laws.{fault_laws}
use Rattle.text_faults.proofs.advice.first_fault.Goals as goal

pub returns-then-not-is_right : goal.returns-then-not-is_right
returns-then-not-is_right c = search (rules, fault_laws)

pub returns-then-e-rest : goal.returns-then-e-rest
returns-then-e-rest c = search (rules, fault_laws)

pub loop-rest-preserved : goal.loop-rest-preserved
loop-rest-preserved c = search (rules, fault_laws)
