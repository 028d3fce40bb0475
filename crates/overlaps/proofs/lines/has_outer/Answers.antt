use Rattle.std.proofs.Common.{rules}
use Rattle.overlaps.proofs.Laws.{laws}
use Rattle.overlaps.proofs.lines.has_outer.Goals as goal

pub loop-field-preserved-then-field-ne0 : goal.loop-field-preserved-then-field-ne0
loop-field-preserved-then-field-ne0 c = search (rules, laws)

pub returns-then-is_same : goal.returns-then-is_same
returns-then-is_same c = search (rules, laws)

pub loop-field-preserved : goal.loop-field-preserved
loop-field-preserved c = search (rules, laws)

pub returns : goal.returns
returns c = search (rules, laws)
