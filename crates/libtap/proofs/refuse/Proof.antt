-- `libtap::refuse` meets its contract, by the laws of the crate. Assumes nothing.
use borrow.Author.Rules.{rules}
use Rattle.libtap.proofs.Laws.{laws}
use Rattle.libtap.proofs.refuse.Statement.{statement}
use Rattle.libtap.proofs.refuse.Tie as tie

pub refuse_spec : {M : Type 1} → statement M
refuse_spec = tie.close (tie.spec (λ c κs. search (rules, laws)) (λ c. search (rules, laws)) (λ c κs. search (rules, laws)) (λ c. search (rules, laws)))
