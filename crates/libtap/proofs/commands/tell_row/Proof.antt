-- `libtap::commands::tell_row` meets its contract, by the laws of the crate. Assumes nothing.
use Rattle.libtap.proofs.RowLaws.{row_laws}
use borrow.Author.Rules.{rules}
use Rattle.libtap.proofs.commands.tell_row.Statement.{statement}
use Rattle.libtap.proofs.commands.tell_row.Tie as tie

pub tell_row_spec : {M : Type 1} → statement M
tell_row_spec =
    tie.close
    (tie.spec
    (λ c. search (rules, row_laws))
    (λ c κs. search (rules, row_laws))
    (λ c. search (rules, row_laws))
    (λ c κs. search (rules, row_laws))
    (λ c. search (rules, row_laws))
    (λ c κs. search (rules, row_laws))
    (λ c κs. search (rules, row_laws))
    (λ c κs. search (rules, row_laws))
    (λ c. search (rules, row_laws))
    (λ c. search (rules, row_laws)))
