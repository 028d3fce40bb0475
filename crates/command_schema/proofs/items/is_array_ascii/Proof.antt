-- `command_schema::items::is_array_ascii` meets its contract, by the laws of the crate. Assumes nothing.
use borrow.Author.Rules.{rules}
use Rattle.command_schema.proofs.Laws.{laws}
use Rattle.command_schema.proofs.items.is_array_ascii.Statement.{statement}
use Rattle.command_schema.proofs.items.is_array_ascii.Tie as tie

pub is_array_ascii_spec : {M : Type 1} → statement M
is_array_ascii_spec = tie.close (tie.spec (λ c. search (rules, laws)) (λ c. search (rules, laws)))
