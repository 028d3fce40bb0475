-- `command_value::lookup::find_items` meets its contract, by the laws of the crate. Assumes nothing.
use Rattle.command_value.proofs.Laws.{laws}
use borrow.Author.Rules.{rules}
use Rattle.command_value.proofs.lookup.find_items.Statement.{statement}
use Rattle.command_value.proofs.lookup.find_items.Tie as tie

pub find_items_spec : {M : Type 1} → statement M
find_items_spec =
    tie.close
    (tie.spec
    (λ c κs. search (rules, laws))
    (λ c κs. search (rules, laws))
    (λ c. search (rules, laws))
    (λ c. search (rules, laws)))
