-- `libtap::nodes::tap_command_nodes` meets its contract, by the laws of the crate. Assumes nothing.
use Rattle.libtap.proofs.NodeLaws.{node_laws}
use borrow.Author.Rules.{rules}
use Rattle.libtap.proofs.nodes.tap_command_nodes.Statement.{statement}
use Rattle.libtap.proofs.nodes.tap_command_nodes.Tie as tie

pub tap_command_nodes_spec : {M : Type 1} → statement M
tap_command_nodes_spec =
    tie.close
    (tie.spec (λ c κs. search (rules, node_laws)) (λ c κs. search (rules, node_laws)) (λ c κs. search (rules, node_laws))
    (λ c. search (rules, node_laws)) (λ c. search (rules, node_laws)))
