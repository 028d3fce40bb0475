-- `libtap::commands::tell_params` meets its contract, by the laws of the crate. Assumes nothing.
use Rattle.libtap.proofs.Laws.{laws}
use borrow.Author.Rules.{rules}
use Rattle.libtap.proofs.commands.tell_params.Statement.{statement}
use Rattle.libtap.proofs.commands.tell_params.Tie as tie

pub tell_params_spec : {M : Type 1} → statement M
tell_params_spec =
    tie.close
    (tie.spec
    (λ c. search (rules, laws))
    (λ c. search (rules, laws))
    (λ c κs. search (rules, laws))
    (λ c. search (rules, laws))
    (λ c κs. search (rules, laws))
    (λ c. search (rules, laws))
    (λ c. search (rules, laws)))
