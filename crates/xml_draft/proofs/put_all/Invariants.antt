use Rattle.xml_draft.specs.Draft.{Going}
use lib.ListN.{drop}
use Rattle.xml_draft.proofs.put_all.Given as goal

abbrev pub invariant-loop-b : goal.invariant-loop-b
invariant-loop-b l = Going l.initial.out l.n l.s l.out l.next (drop l.b-index l.s)
