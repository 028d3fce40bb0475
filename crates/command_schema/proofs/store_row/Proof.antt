-- `command_schema::store_row` meets its contract, by the laws of the crate. Assumes nothing.
use Rattle.command_schema.proofs.Laws.{laws}
use borrow.Author.Rules.{rules}
use Rattle.command_schema.proofs.store_row.Statement.{statement}
use Rattle.command_schema.proofs.store_row.Tie as tie

pub store_row_spec : {M : Type 1} → statement M
store_row_spec =
    tie.close
    (tie.spec (λ c. search (rules, laws)) (λ c κs. search (rules, laws)) (λ c. search (rules, laws)) (λ c κs. search (rules, laws))
    (λ c. search (rules, laws)) (λ c. search (rules, laws)))
