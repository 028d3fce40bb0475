use Rattle.std.proofs.Common.{rules}
use Rattle.overlaps.proofs.Laws.{laws}
use Rattle.overlaps.proofs.lines.is_clear.Goals as goal

pub returns-then-field-level : goal.returns-then-field-level
returns-then-field-level c = search (rules, laws)

pub loop-field-preserved-then-level-field : goal.loop-field-preserved-then-level-field
loop-field-preserved-then-level-field c = search (rules, laws)

pub returns-then-field-order : goal.returns-then-field-order
returns-then-field-order c = search (rules, laws)

pub returns-then-same_part : goal.returns-then-same_part
returns-then-same_part c = search (rules, laws)

pub loop-field-preserved : goal.loop-field-preserved
loop-field-preserved c = search (rules, laws)

pub returns : goal.returns
returns c = search (rules, laws)
