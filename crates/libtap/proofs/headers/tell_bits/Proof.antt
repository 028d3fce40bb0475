-- `libtap::headers::tell_bits` meets its contract, by the laws of the crate. Assumes nothing.
use Rattle.libtap.proofs.Laws.{laws}
use borrow.Author.Rules.{rules}
use Rattle.libtap.proofs.headers.tell_bits.Statement.{statement}
use Rattle.libtap.proofs.headers.tell_bits.Tie as tie

pub tell_bits_spec : {M : Type 1} → statement M
tell_bits_spec = tie.close (tie.spec (λ c. search (rules, laws)) (λ c. search (rules, laws)) (λ c. search (rules, laws)) (λ c. search (rules, laws)))
