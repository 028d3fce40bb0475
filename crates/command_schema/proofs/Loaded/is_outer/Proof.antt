-- `command_schema::Loaded::is_outer` meets its contract, by the laws of the crate. Assumes nothing.
use borrow.Author.Rules.{rules}
use Rattle.command_schema.proofs.Laws.{laws}
use Rattle.command_schema.proofs.Loaded.is_outer.Statement.{statement}
use Rattle.command_schema.proofs.Loaded.is_outer.Tie as tie

pub is_outer_spec : {M : Type 1} → statement M
is_outer_spec = tie.close (tie.spec (λ c. search (rules, laws)) (λ c. search (rules, laws)))
