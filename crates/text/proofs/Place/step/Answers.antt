use Rattle.std.proofs.Common.{rules}
use Rattle.text.proofs.Laws.{step_laws}
use Rattle.text.proofs.Place.step.Goals as goal

pub returns : goal.returns
returns c = search (rules, step_laws)
