-- `libtap::commands::tap_command_row` meets its contract, by the laws of the crate. Assumes nothing.
use Rattle.libtap.proofs.RowLaws.{row_laws}
use borrow.Author.Rules.{rules}
use Rattle.libtap.proofs.commands.tap_command_row.Statement.{statement}
use Rattle.libtap.proofs.commands.tap_command_row.Tie as tie

pub tap_command_row_spec : {M : Type 1} → statement M
tap_command_row_spec =
    tie.close (tie.spec (λ c κs. search (rules, row_laws)) (λ c κs. search (rules, row_laws)) (λ c κs. search (rules, row_laws))
    (λ c. search (rules, row_laws)))
