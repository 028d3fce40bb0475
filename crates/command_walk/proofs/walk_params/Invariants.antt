use Rattle.command_walk.proofs.Outer.{Outer}
use Rattle.command_walk.proofs.walk_params.Given as goal

abbrev pub invariant-loop-j : goal.invariant-loop-j
invariant-loop-j l =
    Outer l.offsets l.text l.body l.skip l.initial.rows l.rows l.kept l.have l.at.0 l.next l.j
