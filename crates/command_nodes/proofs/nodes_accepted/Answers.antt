use Rattle.std.proofs.lemmas.Result.{err_from_is_err_and}
use Rattle.command_nodes.proofs.Laws.{told-refused, told-row}
use Rattle.command_nodes.proofs.nodes_accepted.Goals as goal

pub returns-in_err-found : goal.returns-in_err-found
returns-in_err-found c =
    let p = err_from_is_err_and c.from_residual.result c.from_residual.ensures.1 in
    rw (p.1, p.2) (told-refused _ _ _ _ _ _ c.row_accepted.ensures c.requires _ c.in_err-found.was)

pub returns : goal.returns
returns c =
    told-row _ _ _ _ _ _ c.row_accepted.ensures c.requires _ _ _ c.nodes_of_row.ensures c.in_ok-found.was
