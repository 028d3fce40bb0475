-- `command_schema::loaded_at` meets its contract, by the laws of the crate. Assumes nothing.
use Rattle.command_schema.specs.Loaded.{loaded_at}
use Rattle.command_schema.proofs.Laws.{laws}
use borrow.Author.Rules.{rules}
use Rattle.command_schema.proofs.loaded_at.Statement.{statement}
use Rattle.command_schema.proofs.loaded_at.Tie as tie

returns : tie.Need-returns
unfolding loaded_at
returns c = search (rules, laws)

pub loaded_at_spec : {M : Type 1} → statement M
loaded_at_spec =
    tie.close
    (tie.spec
    (λ c. search (rules, laws))
    (λ c. search (rules, laws))
    (λ c. search (rules, laws))
    (λ c. search (rules, laws))
    (λ c. search (rules, laws))
    (λ c. search (rules, laws))
    (λ c. search (rules, laws))
    (λ c. search (rules, laws))
    (λ c. search (rules, laws))
    (λ c. search (rules, laws))
    (λ c. search (rules, laws))
    (λ c. search (rules, laws))
    (λ c. search (rules, laws))
    (λ c. search (rules, laws))
    (λ c. search (rules, laws))
    (λ c. search (rules, laws))
    (λ c. search (rules, laws))
    (λ c. search (rules, laws))
    (λ c. search (rules, laws))
    (λ c. search (rules, laws))
    (λ c. search (rules, laws))
    (λ c. search (rules, laws))
    (λ c. search (rules, laws))
    (λ c. search (rules, laws))
    (λ c. search (rules, laws))
    (λ c. search (rules, laws))
    (λ c. search (rules, laws))
    (λ c. search (rules, laws))
    (λ c. search (rules, laws))
    (λ c. search (rules, laws))
    (λ c. search (rules, laws))
    (λ c. search (rules, laws))
    (λ c. search (rules, laws))
    (λ c. search (rules, laws))
    (λ c. search (rules, laws))
    (λ c. search (rules, laws))
    returns)
