-- `command_value::lookup::keep` meets its contract, by the laws of the crate. Assumes nothing.
use Rattle.command_value.proofs.Laws.{laws}
use borrow.Author.Rules.{rules}
use Rattle.command_value.proofs.lookup.keep.Statement.{statement}
use Rattle.command_value.proofs.lookup.keep.Tie as tie

pub keep_spec : {M : Type 1} → statement M
keep_spec =
    tie.close
    (tie.spec
    (λ c. search (rules, laws))
    (λ c. search (rules, laws))
    (λ c. search (rules, laws))
    (λ c. search (rules, laws))
    (λ c. search (rules, laws))
    (λ c. search (rules, laws))
    (λ c. search (rules, laws)))
