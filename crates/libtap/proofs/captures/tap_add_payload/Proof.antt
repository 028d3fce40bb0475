-- `libtap::captures::tap_add_payload` meets its contract, by the laws of the crate. Assumes nothing.
use Rattle.libtap.proofs.TotalsLaws.{totals_laws}
use borrow.Author.Rules.{rules}
use Rattle.libtap.proofs.captures.tap_add_payload.Statement.{statement}
use Rattle.libtap.proofs.captures.tap_add_payload.Tie as tie

pub tap_add_payload_spec : {M : Type 1} → statement M
tap_add_payload_spec =
    tie.close
    (tie.spec
    (λ c κs. search (rules, totals_laws))
    (λ c κs. search (rules, totals_laws))
    (λ c κs. search (rules, totals_laws))
    (λ c. search (rules, totals_laws)))
