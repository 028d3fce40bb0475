use Rattle.std.proofs.Common.{rules}
use Rattle.command_groups.proofs.Groups.{turns_laws}
use Rattle.command_groups.proofs.read_group.Goals as goal

pub loop-times-init : goal.loop-times-init
loop-times-init c = search (rules, turns_laws)

pub loop-times-preserved : goal.loop-times-preserved
loop-times-preserved c = search (rules, turns_laws)
