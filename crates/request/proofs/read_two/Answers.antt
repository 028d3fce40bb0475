use Rattle.std.proofs.Common.{◌∙◌}
use Rattle.request.proofs.Laws.{two_one, two_are}
use Rattle.request.proofs.read_two.Goals as goal

pub returns-in_err-second : goal.returns-in_err-second
returns-in_err-second c =
    c.from_residual-in_err-second.ensures
    ∙ two_one _ c.read_leading.result c.read_leading.ensures _ _ c.in_ok-first.was _ c.read_leading-2.ensures c.in_err-second.was

pub returns : goal.returns
returns c = two_are _ c.read_leading.result c.read_leading.ensures _ _ c.in_ok-first.was _ c.read_leading-2.ensures _ _ c.in_ok-second.was
