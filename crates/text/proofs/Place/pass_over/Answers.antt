use Rattle.std.proofs.Common.{rules}
use Rattle.text.proofs.Passing.{pass_laws}
use Rattle.text.proofs.Place.pass_over.Goals as goal

pub returns-then-e-rest : goal.returns-then-e-rest
returns-then-e-rest c = search (rules, pass_laws)
