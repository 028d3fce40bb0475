-- `command_schema::items::variable_length` meets its contract, by the laws of the crate. Assumes nothing.
use Rattle.command_schema.proofs.Laws.{laws}
use borrow.Author.Rules.{rules}
use Rattle.command_schema.proofs.items.variable_length.Statement.{statement}
use Rattle.command_schema.proofs.items.variable_length.Tie as tie

pub variable_length_spec : {M : Type 1} → statement M
variable_length_spec = tie.close (tie.spec (λ c. search (rules, laws)) (λ c κs. search (rules, laws)) (λ c. search (rules, laws)))
