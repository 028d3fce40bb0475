use Rattle.std.proofs.lemmas.Result.{err_from_is_err_and}
use Rattle.command_value.proofs.Laws.{told-not}
use Rattle.command_value.proofs.command_value.Goals as goal

pub returns-in_err-check_command_text : goal.returns-in_err-check_command_text
returns-in_err-check_command_text c =
    let p = err_from_is_err_and c.from_residual.result c.from_residual.ensures.1 in
    rw (p.1, p.2) (told-not _ _ _ _ _ _ _ c.check_command_text.ensures.is c.in_err-check_command_text.was)
