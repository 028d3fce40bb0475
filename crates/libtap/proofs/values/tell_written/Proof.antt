-- `libtap::values::tell_written` meets its contract, by the laws of the crate. Assumes nothing.
use borrow.Author.Rules.{rules}
use Rattle.libtap.proofs.ValueLaws.{value_laws}
use Rattle.libtap.proofs.values.tell_written.Statement.{statement}
use Rattle.libtap.proofs.values.tell_written.Tie as tie

pub tell_written_spec : {M : Type 1} → statement M
tell_written_spec =
    tie.close
    (tie.spec
    (λ c. search (rules, value_laws))
    (λ c κs. search (rules, value_laws))
    (λ c. search (rules, value_laws))
    (λ c κs. search (rules, value_laws))
    (λ c. search (rules, value_laws))
    (λ c. search (rules, value_laws)))
