use Rattle.std.proofs.Common.{rules}
use Rattle.files.proofs.folder.Laws.{loaded_inside}
use Rattle.files.proofs.frame_names.Laws.{laws}
use Rattle.files.proofs.frame_names.load_frames.Goals as goal

pub returns-in_default : goal.returns-in_default
returns-in_default g c = search (rules, laws)

pub returns : goal.returns
returns g c = search (rules, laws, loaded_inside)
