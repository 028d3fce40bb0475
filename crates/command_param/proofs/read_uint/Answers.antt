use Rattle.std.proofs.Common.{rules}
use Rattle.command_param.proofs.Values.{uint_laws}
use Rattle.command_param.proofs.read_uint.Goals as goal

pub loop-b-preserved : goal.loop-b-preserved
loop-b-preserved c = search (rules, uint_laws)
