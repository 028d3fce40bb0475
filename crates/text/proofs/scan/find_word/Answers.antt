use Rattle.std.proofs.Common.{rules}
use Rattle.text.proofs.Laws.{front_count}
use Rattle.text.proofs.Laws.{word_laws}
use Rattle.text.proofs.scan.find_word.Goals as goal

pub returns-then-is_same : goal.returns-then-is_same
returns-then-is_same c = search (rules, word_laws)

pub returns-then-e-rest : goal.returns-then-e-rest
returns-then-e-rest c = search (rules, word_laws)

pub loop-rest-preserved : goal.loop-rest-preserved
loop-rest-preserved c = search (rules, front_count, word_laws)
