-- `libtap::texts::tap_check_command_text` meets its contract, by the laws of the crate. Assumes nothing.
use Rattle.libtap.proofs.Laws.{laws}
use borrow.Author.Rules.{rules}
use Rattle.libtap.proofs.texts.tap_check_command_text.Statement.{statement}
use Rattle.libtap.proofs.texts.tap_check_command_text.Tie as tie

pub tap_check_command_text_spec : {M : Type 1} → statement M
tap_check_command_text_spec =
    tie.close (tie.spec (λ c κs. search (rules, laws)) (λ c κs. search (rules, laws)) (λ c. search (rules, laws)))
