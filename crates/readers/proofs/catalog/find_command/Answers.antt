use Rattle.std.proofs.Common.{rules}
use Rattle.readers.proofs.catalog.Laws.{laws}
use Rattle.readers.proofs.catalog.find_command.Goals as goal

pub returns-then-is_of : goal.returns-then-is_of
returns-then-is_of c = search (rules, laws)
