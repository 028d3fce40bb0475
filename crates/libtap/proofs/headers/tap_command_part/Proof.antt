-- `libtap::headers::tap_command_part` meets its contract, by the laws of the crate. Assumes nothing.
use Rattle.libtap.proofs.Laws.{laws}
use borrow.Author.Rules.{rules}
use Rattle.libtap.proofs.headers.tap_command_part.Statement.{statement}
use Rattle.libtap.proofs.headers.tap_command_part.Tie as tie

pub tap_command_part_spec : {M : Type 1} → statement M
tap_command_part_spec = tie.close (tie.spec (λ c κs. search (rules, laws)) (λ c. search (rules, laws)))
