use Rattle.xml_spelling.proofs.Laws.{escaping_more}
use Rattle.xml_spelling.proofs.append_escaped.Goals as goal

pub loop-b-preserved : goal.loop-b-preserved
loop-b-preserved c = escaping_more _ _ _ _ _ _ c.loop-b.invariant _ _ c.loop-b-test.true c.append_escape-next.ensures
