use Rattle.std.proofs.Common.{rules}
use Rattle.text.proofs.Laws.{front_count}
use Rattle.text_faults.proofs.fault.Laws.{part_laws}
use Rattle.text_faults.proofs.fault.why_parts.Goals as goal

pub returns-then-e-rest : goal.returns-then-e-rest
returns-then-e-rest c = search (rules, front_count, part_laws)

pub returns-then-not-is_name : goal.returns-then-not-is_name
returns-then-not-is_name c = search (rules, part_laws)
