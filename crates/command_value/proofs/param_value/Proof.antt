-- `command_value::param_value` meets its contract, by the laws of the crate. Assumes nothing.
use Rattle.command_value.proofs.Laws.{laws}
use borrow.Author.Rules.{rules}
use Rattle.command_value.proofs.param_value.Statement.{statement}
use Rattle.command_value.proofs.param_value.Tie as tie

pub param_value_spec : {M : Type 1} → statement M
param_value_spec =
    tie.close
    (tie.spec
    (λ c κs. search (rules, laws))
    (λ c κs. search (rules, laws))
    (λ c κs. search (rules, laws))
    (λ c κs. search (rules, laws))
    (λ c κs. search (rules, laws))
    (λ c κs. search (rules, laws))
    (λ c. search (rules, laws))
    (λ c. search (rules, laws)))
