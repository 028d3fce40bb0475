-- `libtap::frames::tap_count_records` meets its contract, by the laws of the crate. Assumes nothing.
use Rattle.libtap.proofs.Laws.{laws}
use borrow.Author.Rules.{rules}
use Rattle.libtap.proofs.frames.tap_count_records.Statement.{statement}
use Rattle.libtap.proofs.frames.tap_count_records.Tie as tie

pub tap_count_records_spec : {M : Type 1} → statement M
tap_count_records_spec = tie.close (tie.spec (λ c κs. search (rules, laws)) (λ c κs. search (rules, laws)) (λ c. search (rules, laws)))
