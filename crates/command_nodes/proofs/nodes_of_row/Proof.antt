-- `command_nodes::nodes_of_row` meets its contract, by the laws of the crate. Assumes nothing.
use Rattle.command_nodes.proofs.Laws.{laws}
use borrow.Author.Rules.{rules}
use Rattle.command_nodes.proofs.nodes_of_row.Statement.{statement}
use Rattle.command_nodes.proofs.nodes_of_row.Tie as tie

pub nodes_of_row_spec : {M : Type 1} → statement M
nodes_of_row_spec =
    tie.close
    (tie.spec
    (λ c κs. search (rules, laws))
    (λ c κs. search (rules, laws))
    (λ c κs. search (rules, laws))
    (λ c. search (rules, laws))
    (λ c. search (rules, laws))
    (λ c. search (rules, laws)))
