use Rattle.std.proofs.Common.{arith}
use Rattle.files.proofs.append.Laws.{appended}
use Rattle.files.proofs.append.append.Goals as goal

pub returns : goal.returns
returns c =
    appended c.args.slice.now c.args.bytes.now c.copy_from_slice.new.self c.args.at c.min-n.result _ c.requires c.copy_from_slice.ensures.after c.min-n.ensures (omega arith)
