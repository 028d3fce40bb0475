-- `command_value::bit_value` meets its contract, by the laws of the crate. Assumes nothing.
use Rattle.command_value.proofs.Laws.{laws}
use borrow.Author.Rules.{rules}
use Rattle.command_value.proofs.bit_value.Statement.{statement}
use Rattle.command_value.proofs.bit_value.Tie as tie

pub bit_value_spec : {M : Type 1} → statement M
bit_value_spec = tie.close (tie.spec (λ c κs. search (rules, laws)) (λ c κs. search (rules, laws)) (λ c. search (rules, laws))
    (λ c. search (rules, laws)))
