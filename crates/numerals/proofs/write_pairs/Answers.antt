use Rattle.numerals.proofs.Laws.{pairs-written}
use Rattle.numerals.proofs.write_pairs.Goals as goal

pub returns : goal.returns
returns c = pairs-written _ _ _ _ _ c.put.ensures c.put_pairs.ensures c.if-buffer-size.false
