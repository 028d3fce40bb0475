-- `command_schema::load_param` meets its contract, by the laws of the crate. Assumes nothing.
use Rattle.command_schema.proofs.Laws.{laws}
use borrow.Author.Rules.{rules}
use Rattle.command_schema.proofs.load_param.Statement.{statement}
use Rattle.command_schema.proofs.load_param.Tie as tie

pub load_param_spec : {M : Type 1} → statement M
load_param_spec = tie.close (tie.spec (λ c. search (rules, laws)) (λ c. search (rules, laws)) (λ c κs. search (rules, laws))
    (λ c κs. search (rules, laws)) (λ c. search (rules, laws)))
