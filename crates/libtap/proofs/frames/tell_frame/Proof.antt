-- `libtap::frames::tell_frame` meets its contract, by the laws of the crate. Assumes nothing.
use Rattle.libtap.proofs.Laws.{laws}
use borrow.Author.Rules.{rules}
use Rattle.libtap.proofs.frames.tell_frame.Statement.{statement}
use Rattle.libtap.proofs.frames.tell_frame.Tie as tie

pub tell_frame_spec : {M : Type 1} → statement M
tell_frame_spec =
    tie.close
    (tie.spec
    (λ c. search (rules, laws))
    (λ c κs. search (rules, laws))
    (λ c. search (rules, laws))
    (λ c κs. search (rules, laws))
    (λ c. search (rules, laws))
    (λ c κs. search (rules, laws))
    (λ c. search (rules, laws))
    (λ c. search (rules, laws)))
