-- `command_schema::items::Gathered::with_bitmask` meets its contract, by the laws of the crate. Assumes nothing.
use borrow.Author.Rules.{rules}
use Rattle.command_schema.proofs.Laws.{laws}
use Rattle.command_schema.proofs.items.Gathered.with_bitmask.Statement.{statement}
use Rattle.command_schema.proofs.items.Gathered.with_bitmask.Tie as tie

pub with_bitmask_spec : {M : Type 1} → statement M
with_bitmask_spec = tie.close (tie.spec (λ c. search (rules, laws)) (λ c. search (rules, laws)))
