use Rattle.std.proofs.Common.{rules}
use Rattle.text_faults.proofs.advice.Laws.{line_laws}
use Rattle.text_faults.proofs.advice.advise_command_line.Goals as goal

pub returns : goal.returns
returns c = search (rules, line_laws)
