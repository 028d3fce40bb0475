use Rattle.replay.specs.Input.{In}
use Rattle.replay.proofs.serve.serve.Given as goal

abbrev pub invariant-loop : goal.invariant-loop
invariant-loop g l = In l.lines l.input
