use Rattle.command_groups.proofs.Members.{Members}
use Rattle.command_groups.proofs.read_members.Given as goal

abbrev pub invariant-loop-j : goal.invariant-loop-j
invariant-loop-j l =
    Members l.text l.body l.fn.group.count l.fn.group.first l.initial.at.0 l.spot.row l.spot.parent l.spot.skip l.initial.rows l.rows l.kept l.have l.at.0 l.next l.j
