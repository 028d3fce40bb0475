-- `command_nodes::type_read` meets its contract, by the laws of the crate. Assumes nothing.
use borrow.Author.Rules.{rules}
use Rattle.command_nodes.proofs.Laws.{laws}
use Rattle.command_nodes.proofs.type_read.Statement.{statement}
use Rattle.command_nodes.proofs.type_read.Tie as tie

pub type_read_spec : {M : Type 1} → statement M
type_read_spec = tie.close (tie.spec (λ c. search (rules, laws)) (λ c. search (rules, laws)))
