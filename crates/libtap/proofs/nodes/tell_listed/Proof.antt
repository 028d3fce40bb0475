-- `libtap::nodes::tell_listed` meets its contract, by the laws of the crate. Assumes nothing.
use borrow.Author.Rules.{rules}
use Rattle.libtap.proofs.NodeLaws.{node_laws}
use Rattle.libtap.proofs.nodes.tell_listed.Statement.{statement}
use Rattle.libtap.proofs.nodes.tell_listed.Tie as tie

pub tell_listed_spec : {M : Type 1} → statement M
tell_listed_spec =
    tie.close
    (tie.spec
    (λ c. search (rules, node_laws))
    (λ c κs. search (rules, node_laws))
    (λ c. search (rules, node_laws))
    (λ c κs. search (rules, node_laws))
    (λ c. search (rules, node_laws))
    (λ c. search (rules, node_laws)))
