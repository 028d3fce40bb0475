use Rattle.std.proofs.Common.{rules}
use Rattle.overlaps.proofs.Laws.{meet_laws}
use Rattle.overlaps.proofs.fields.meet.Goals as goal

pub returns-in_default : goal.returns-in_default
returns-in_default c = search (rules, meet_laws)

pub returns-in_default-next_param : goal.returns-in_default-next_param
returns-in_default-next_param c = search (rules, meet_laws)

pub returns-then-not-is_alike : goal.returns-then-not-is_alike
returns-then-not-is_alike c = search (rules, meet_laws)

pub returns-then-field-level : goal.returns-then-field-level
returns-then-field-level c = search (rules, meet_laws)

pub returns-then-is_named : goal.returns-then-is_named
returns-then-is_named c = search (rules, meet_laws)

pub loop-field-preserved : goal.loop-field-preserved
loop-field-preserved c = search (rules, meet_laws)
