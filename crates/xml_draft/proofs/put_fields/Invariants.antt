use Rattle.xml_draft.specs.Draft.{Going}
use Rattle.xml_tags.specs.Tags.{fields_of}
use Rattle.text.specs.Text.{split, fields}
use lib.ListN.{length, drop}
use Rattle.xml_draft.proofs.put_fields.Given as goal

abbrev pub invariant-loop-a : goal.invariant-loop-a
invariant-loop-a l =
    Going l.initial.out l.n (fields_of (drop 1 (fields l.row)) (split 34 l.body)) l.out l.next (fields_of (drop 1 (fields l.rest)) (split 34 l.body))

abbrev pub decreases-loop-a : goal.decreases-loop-a
decreases-loop-a l = length l.rest
