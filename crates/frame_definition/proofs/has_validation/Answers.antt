use Rattle.frame_definition.proofs.Candidates.{is_validation}
use Rattle.frame_definition.proofs.has_validation.Goals as goal

pub returns : goal.returns
returns c = is_validation c.args.text.now c.args.place _ c.next_under.ensures _ c.is_some.ensures
