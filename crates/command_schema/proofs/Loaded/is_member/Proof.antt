-- `command_schema::Loaded::is_member` meets its contract, by the laws of the crate. Assumes nothing.
use borrow.Author.Rules.{rules}
use Rattle.command_schema.proofs.Laws.{laws}
use Rattle.command_schema.proofs.Loaded.is_member.Statement.{statement}
use Rattle.command_schema.proofs.Loaded.is_member.Tie as tie

pub is_member_spec : {M : Type 1} → statement M
is_member_spec = tie.close (tie.spec (λ c. search (rules, laws)) (λ c. search (rules, laws)))
