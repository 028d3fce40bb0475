-- `libtap::values::tap_command_value` meets its contract, by the laws of the crate. Assumes nothing.
use Rattle.libtap.proofs.ValueLaws.{value_laws}
use borrow.Author.Rules.{rules}
use Rattle.libtap.proofs.values.tap_command_value.Statement.{statement}
use Rattle.libtap.proofs.values.tap_command_value.Tie as tie

pub tap_command_value_spec : {M : Type 1} → statement M
tap_command_value_spec =
    tie.close
    (tie.spec (λ c κs. search (rules, value_laws)) (λ c κs. search (rules, value_laws)) (λ c κs. search (rules, value_laws))
    (λ c. search (rules, value_laws)) (λ c. search (rules, value_laws)))
