use lib.ListN.{length}
use Rattle.text.specs.Text.{fields}
use Rattle.xml_attributes.proofs.Laws.{Listing}
use Rattle.xml_attributes.proofs.append_attributes.Given as goal

abbrev pub invariant-loop-a : goal.invariant-loop-a
invariant-loop-a l = Listing l.row (fields l.line) l.first l.buffer l.initial.buffer l.next l.at l.rest l.k l.j

abbrev pub decreases-loop-a : goal.decreases-loop-a
decreases-loop-a l = length l.rest
