-- `command_value::lookup::name_by` meets its contract, by the laws of the crate. Assumes nothing.
use Rattle.command_value.proofs.Laws.{laws}
use borrow.Author.Rules.{rules}
use Rattle.command_value.proofs.lookup.name_by.Statement.{statement}
use Rattle.command_value.proofs.lookup.name_by.Tie as tie

pub name_by_spec : {M : Type 1} → statement M
name_by_spec =
    tie.close
    (tie.spec
    (λ c. search (rules, laws))
    (λ c. search (rules, laws))
    (λ c. search (rules, laws))
    (λ c κs. search (rules, laws))
    (λ c. search (rules, laws))
    (λ c. search (rules, laws))
    (λ c. search (rules, laws))
    (λ c. search (rules, laws))
    (λ c. search (rules, laws)))
