-- `command_schema::load_with_items` meets its contract, by the laws of the crate. Assumes nothing.
use Rattle.command_schema.proofs.Loading.{load_laws}
use borrow.Author.Rules.{rules}
use Rattle.command_schema.proofs.load_with_items.Statement.{statement}
use Rattle.command_schema.proofs.load_with_items.Tie as tie

pub load_with_items_spec : {M : Type 1} → statement M
load_with_items_spec =
    tie.close (tie.spec (λ c κs. search (rules, load_laws)) (λ c κs. search (rules, load_laws)) (λ c κs. search (rules, load_laws))
    (λ c. search (rules, load_laws)) (λ c. search (rules, load_laws)))
