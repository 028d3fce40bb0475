use Rattle.std.proofs.Common.{rules}
use Rattle.xml_reader.proofs.Laws.{block_laws}
use Rattle.xml_reader.proofs.put_block.Goals as goal

pub returns-then-letter_of-w : goal.returns-then-letter_of-w
returns-then-letter_of-w c = search (rules, block_laws)
