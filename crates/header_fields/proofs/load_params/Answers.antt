use Rattle.std.proofs.Common.{rules}
use Rattle.header_fields.proofs.Laws.{laws}
use Rattle.header_fields.proofs.load_params.Goals as goal

pub loop-field-preserved : goal.loop-field-preserved
loop-field-preserved c = search (rules, laws)
