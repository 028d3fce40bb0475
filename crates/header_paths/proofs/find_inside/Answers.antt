use Rattle.std.proofs.Common.{rules}
use Rattle.header_paths.proofs.Laws.{path-last}
use Rattle.header_paths.proofs.find_inside.Goals as goal

pub returns-then-e-rest : goal.returns-then-e-rest
returns-then-e-rest c =
    path-last _ _ _ _ _ _ _ _ c.loop-k.invariant (search rules) _ c.find_row.ensures _ c.in_ok-k.was _ c.value_of.ensures c.if-e-rest.true
