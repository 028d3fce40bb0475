use lib.ListN.{length}
use Rattle.header_paths.proofs.Choice.{rest}
use Rattle.header_walk.proofs.Laws.{Listing}
use Rattle.header_walk.proofs.walk_from.Given as goal

abbrev pub invariant-loop-outer : goal.invariant-loop-outer
invariant-loop-outer l =
    Listing l.text l.fields l.mpdu l.count l.first l.initial.bit l.initial.next l.initial.rows l.rows l.order l.place l.bit l.next

abbrev pub decreases-loop-outer : goal.decreases-loop-outer
decreases-loop-outer l =
    length (rest l.text l.fields l.count 0 l.first l.order l.place)
