use Rattle.std.proofs.lemmas.Result.{err_from_is_err_and}
use Rattle.command_nodes.proofs.Laws.{told-not}
use Rattle.command_nodes.proofs.command_nodes.Goals as goal

pub returns-in_err-check_command_text : goal.returns-in_err-check_command_text
returns-in_err-check_command_text c =
    let p = err_from_is_err_and c.from_residual.result c.from_residual.ensures.1 in
    rw (p.1, p.2) (told-not _ _ _ _ _ _ _ c.check_command_text.ensures.is c.in_err-check_command_text.was)
