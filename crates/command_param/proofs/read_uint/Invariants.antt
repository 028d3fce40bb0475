use Rattle.command_param.proofs.Values.{Reading}
use Rattle.command_param.proofs.read_uint.Given as goal

abbrev pub invariant-loop-b : goal.invariant-loop-b
invariant-loop-b l = Reading l.bytes l.v l.b-index
