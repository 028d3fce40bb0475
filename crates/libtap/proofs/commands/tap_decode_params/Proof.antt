-- `libtap::commands::tap_decode_params` meets its contract, by the laws of the crate. Assumes nothing.
use Rattle.libtap.proofs.Laws.{laws}
use borrow.Author.Rules.{rules}
use Rattle.libtap.proofs.commands.tap_decode_params.Statement.{statement}
use Rattle.libtap.proofs.commands.tap_decode_params.Tie as tie

pub tap_decode_params_spec : {M : Type 1} → statement M
tap_decode_params_spec =
    tie.close (tie.spec (λ c κs. search (rules, laws)) (λ c κs. search (rules, laws)) (λ c κs. search (rules, laws)) (λ c. search (rules, laws))
    (λ c. search (rules, laws)))
