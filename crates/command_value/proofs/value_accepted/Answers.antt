use Rattle.std.proofs.lemmas.Result.{err_from_is_err_and}
use Rattle.command_value.proofs.Laws.{told-refused, told-row, found-short}
use Rattle.command_value.proofs.value_accepted.Goals as goal

pub returns-in_err-found : goal.returns-in_err-found
returns-in_err-found c =
    let p = err_from_is_err_and c.from_residual.result c.from_residual.ensures.1 in
    rw (p.1, p.2) (told-refused _ _ _ _ _ c.row_accepted.ensures c.requires _ _ c.in_err-found.was)

pub row_value-requires : goal.row_value-requires
row_value-requires c = (c.requires, found-short c.args.offsets c.args.text.now c.args.payload.now c.args.row c.row_accepted.result c.row_accepted.ensures c.in_ok-found.found c.in_ok-found.was)

pub returns : goal.returns
returns c = told-row _ _ _ _ _ c.row_accepted.ensures c.requires _ _ _ _ c.row_value.ensures c.in_ok-found.was
