-- `libtap::headers::tap_read_bits` meets its contract, by the laws of the crate. Assumes nothing.
use Rattle.libtap.proofs.Laws.{laws}
use borrow.Author.Rules.{rules}
use Rattle.libtap.proofs.headers.tap_read_bits.Statement.{statement}
use Rattle.libtap.proofs.headers.tap_read_bits.Tie as tie

pub tap_read_bits_spec : {M : Type 1} → statement M
tap_read_bits_spec = tie.close (tie.spec (λ c κs. search (rules, laws)) (λ c κs. search (rules, laws)) (λ c. search (rules, laws)))
