-- `command_schema::items::variant_length` meets its contract, by the laws of the crate. Assumes nothing.
use borrow.Author.Rules.{rules}
use Rattle.command_schema.proofs.Laws.{laws}
use Rattle.command_schema.proofs.items.variant_length.Statement.{statement}
use Rattle.command_schema.proofs.items.variant_length.Tie as tie

pub variant_length_spec : {M : Type 1} → statement M
variant_length_spec = tie.close (tie.spec (λ c. search (rules, laws)) (λ c. search (rules, laws)) (λ c. search (rules, laws)) (λ c. search (rules, laws)))
