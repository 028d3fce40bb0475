use Rattle.std.proofs.Common.{rules}
use Rattle.xml_draft.proofs.Laws.{attribute_laws}
use Rattle.xml_draft.proofs.put_attribute.Goals as goal

pub returns-then-f-lt-PAST_DIGITS : goal.returns-then-f-lt-PAST_DIGITS
returns-then-f-lt-PAST_DIGITS c = search (rules, attribute_laws)

pub returns-then-f-eq-FURTHER_FLAG : goal.returns-then-f-eq-FURTHER_FLAG
returns-then-f-eq-FURTHER_FLAG c = search (rules, attribute_laws)

pub returns : goal.returns
returns c = search (rules, attribute_laws)
