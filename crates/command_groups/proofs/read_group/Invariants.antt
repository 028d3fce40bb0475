use mathlib.Core.Path.{◌≡◌}
use lib.ListN.{length, drop}
use Rattle.command_groups.proofs.Groups.{Turns}
use Rattle.command_schema.specs.Heads.{heads_of, members_of}
use Rattle.command_groups.proofs.read_group.Given as goal

abbrev pub invariant-loop-times : goal.invariant-loop-times
invariant-loop-times l =
    Turns l.body (members_of (drop l.group.first (heads_of l.text))) l.group.line l.most l.initial.from.0 l.spot.row l.spot.skip l.initial.rows l.rows l.from.0 l.next l.times
    × (length l.kept ≡ 256)
