use Rattle.std.proofs.Common.{rules}
use Rattle.command_param.proofs.Laws.{written_laws}
use Rattle.command_param.proofs.write_param.Goals as goal

pub returns : goal.returns
returns c = search (rules, written_laws)
