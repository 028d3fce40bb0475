-- `libtap::frames::tell_count` meets its contract, by the laws of the crate. Assumes nothing.
use borrow.Author.Rules.{rules}
use Rattle.libtap.proofs.Laws.{laws}
use Rattle.libtap.proofs.frames.tell_count.Statement.{statement}
use Rattle.libtap.proofs.frames.tell_count.Tie as tie

pub tell_count_spec : {M : Type 1} → statement M
tell_count_spec =
    tie.close
    (tie.spec
    (λ c. search (rules, laws))
    (λ c κs. search (rules, laws))
    (λ c. search (rules, laws))
    (λ c κs. search (rules, laws))
    (λ c. search (rules, laws))
    (λ c. search (rules, laws)))
