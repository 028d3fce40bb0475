-- `command_value::lookup::is_flag` meets its contract, by the laws of the crate. Assumes nothing.
use Rattle.command_value.proofs.Laws.{laws}
use borrow.Author.Rules.{rules}
use Rattle.command_value.proofs.lookup.is_flag.Statement.{statement}
use Rattle.command_value.proofs.lookup.is_flag.Tie as tie

pub is_flag_spec : {M : Type 1} → statement M
is_flag_spec =
    tie.close
    (tie.spec
    (λ c κs. search (rules, laws))
    (λ c κs. search (rules, laws))
    (λ c. search (rules, laws))
    (λ c. search (rules, laws)))
