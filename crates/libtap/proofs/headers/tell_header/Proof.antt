-- `libtap::headers::tell_header` meets its contract, by the laws of the crate. Assumes nothing.
use Rattle.libtap.proofs.Laws.{laws}
use borrow.Author.Rules.{rules}
use Rattle.libtap.proofs.headers.tell_header.Statement.{statement}
use Rattle.libtap.proofs.headers.tell_header.Tie as tie

pub tell_header_spec : {M : Type 1} → statement M
tell_header_spec =
    tie.close
    (tie.spec
    (λ c. search (rules, laws))
    (λ c κs. search (rules, laws))
    (λ c. search (rules, laws))
    (λ c κs. search (rules, laws))
    (λ c. search (rules, laws))
    (λ c κs. search (rules, laws))
    (λ c. search (rules, laws))
    (λ c. search (rules, laws)))
