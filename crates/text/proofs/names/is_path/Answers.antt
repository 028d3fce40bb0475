use Rattle.std.proofs.Common.{rules}
use Rattle.text.proofs.Laws.{front_count}
use Rattle.text.proofs.Laws.{path_laws}
use Rattle.text.proofs.names.is_path.Goals as goal

pub returns-then-e-rest : goal.returns-then-e-rest
returns-then-e-rest c = search (rules, front_count, path_laws)
