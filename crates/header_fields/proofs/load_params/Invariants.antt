use Prim.Native.Nat.{◌-◌}
use lib.ListN.{length}
use Rattle.header_fields.proofs.Laws.{Loading}
use Rattle.header_fields.proofs.load_params.Given as goal

abbrev pub invariant-loop-field : goal.invariant-loop-field
invariant-loop-field l = Loading l.text l.initial.place l.n l.initial.fields l.at l.fields l.place l.number l.next

abbrev pub decreases-loop-field : goal.decreases-loop-field
decreases-loop-field l = length l.text - l.place.at
