use Rattle.std.proofs.Common.{rules}
use Rattle.frame_definition.proofs.Seeking.{seek_laws}
use Rattle.frame_definition.proofs.numbered.find_param.Goals as goal

pub loop-place-preserved : goal.loop-place-preserved
loop-place-preserved c = search (rules, seek_laws)
