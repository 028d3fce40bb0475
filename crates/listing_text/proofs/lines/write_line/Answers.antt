use Rattle.std.proofs.Common.{rules}
use Rattle.listing_text.proofs.Laws.{laws}
use Rattle.listing_text.proofs.lines.write_line.Goals as goal

pub loop-i-preserved : goal.loop-i-preserved
loop-i-preserved c = search (rules, laws)
