-- The level that is left falls; of the fields inside a field, those that are not read yet get fewer.
use Rattle.std.proofs.Common.{◌+◌, ◌*◌, length}
use Rattle.header_paths.proofs.Choice.{rest}
use Rattle.header_walk.proofs.Laws.{Going}
use Rattle.header_walk.proofs.+decode_inner_decode_param.Given as goal

abbrev pub decreases-decode_inner : goal.decreases-decode_inner
decreases-decode_inner l = l.outer.left * 2 + 1

abbrev pub decreases-decode_param : goal.decreases-decode_param
decreases-decode_param l = l.spot.left * 2

abbrev pub invariant-decode_inner-loop-inner : goal.invariant-decode_inner-loop-inner
invariant-decode_inner-loop-inner l =
    Going l.text l.fields l.mpdu l.count l.left l.outer.place l.initial.bit l.outer.width l.outer.rows l.initial.rows l.rows l.level l.order l.place
    l.room l.bit l.next

abbrev pub decreases-decode_inner-loop-inner : goal.decreases-decode_inner-loop-inner
decreases-decode_inner-loop-inner l = length (rest l.text l.fields l.count l.level (l.outer.place + 1) l.order l.place)
