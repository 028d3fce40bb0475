-- `libtap::frames::tap_parse_record` meets its contract, by the laws of the crate. Assumes nothing.
use Rattle.libtap.proofs.Laws.{laws}
use borrow.Author.Rules.{rules}
use Rattle.libtap.proofs.frames.tap_parse_record.Statement.{statement}
use Rattle.libtap.proofs.frames.tap_parse_record.Tie as tie

pub tap_parse_record_spec : {M : Type 1} → statement M
tap_parse_record_spec =
    tie.close (tie.spec (λ c κs. search (rules, laws)) (λ c κs. search (rules, laws)) (λ c κs. search (rules, laws)) (λ c. search (rules, laws)))
