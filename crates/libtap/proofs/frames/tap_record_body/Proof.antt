-- `libtap::frames::tap_record_body` meets its contract, by the laws of the crate. Assumes nothing.
use Rattle.libtap.proofs.Laws.{laws}
use borrow.Author.Rules.{rules}
use Rattle.libtap.proofs.frames.tap_record_body.Statement.{statement}
use Rattle.libtap.proofs.frames.tap_record_body.Tie as tie

pub tap_record_body_spec : {M : Type 1} → statement M
tap_record_body_spec = tie.close (tie.spec (λ c κs. search (rules, laws)) (λ c. search (rules, laws)) (λ c. search (rules, laws)))
