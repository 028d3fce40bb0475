-- `libtap::captures::tell_added` meets its contract, by the laws of the crate. Assumes nothing.
use borrow.Author.Rules.{rules}
use Rattle.libtap.proofs.TotalsLaws.{totals_laws}
use Rattle.libtap.proofs.captures.tell_added.Statement.{statement}
use Rattle.libtap.proofs.captures.tell_added.Tie as tie

pub tell_added_spec : {M : Type 1} → statement M
tell_added_spec =
    tie.close
    (tie.spec
    (λ c. search (rules, totals_laws))
    (λ c κs. search (rules, totals_laws))
    (λ c. search (rules, totals_laws))
    (λ c κs. search (rules, totals_laws))
    (λ c. search (rules, totals_laws))
    (λ c. search (rules, totals_laws)))
