-- `command_schema::items::Gathered::with_variant` meets its contract, by the laws of the crate. Assumes nothing.
use borrow.Author.Rules.{rules}
use Rattle.command_schema.proofs.Laws.{laws}
use Rattle.command_schema.proofs.items.Gathered.with_variant.Statement.{statement}
use Rattle.command_schema.proofs.items.Gathered.with_variant.Tie as tie

pub with_variant_spec : {M : Type 1} → statement M
with_variant_spec = tie.close (tie.spec (λ c. search (rules, laws)) (λ c. search (rules, laws)))
