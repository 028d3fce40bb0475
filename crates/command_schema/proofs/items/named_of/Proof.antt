-- `command_schema::items::named_of` meets its contract, by the laws of the crate. Assumes nothing.
use Rattle.command_schema.proofs.Laws.{laws}
use borrow.Author.Rules.{rules}
use Rattle.command_schema.proofs.items.named_of.Statement.{statement}
use Rattle.command_schema.proofs.items.named_of.Tie as tie

pub named_of_spec : {M : Type 1} → statement M
named_of_spec =
    tie.close
    (tie.spec
    (λ c κs. search (rules, laws))
    (λ c κs. search (rules, laws))
    (λ c. search (rules, laws))
    (λ c κs. search (rules, laws))
    (λ c. search (rules, laws))
    (λ c. search (rules, laws))
    (λ c. search (rules, laws)))
