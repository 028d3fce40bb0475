use Rattle.std.proofs.Common.{rules}
use Rattle.command_groups.proofs.Groups.{repetition_laws}
use Rattle.command_groups.proofs.members_at.Goals as goal

pub returns : goal.returns
returns c = search (rules, repetition_laws)
