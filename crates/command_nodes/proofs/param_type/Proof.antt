-- `command_nodes::param_type` meets its contract, by the laws of the crate. Assumes nothing.
use borrow.Author.Rules.{rules}
use Prim.Native.Nat.{◌-◌}
use lib.ListN.{length}
use Rattle.command_nodes.proofs.Laws.{Typing, laws}
use Rattle.command_nodes.proofs.param_type.Statement.{statement}
use Rattle.command_nodes.proofs.param_type.Tie as tie

abbrev invariant-loop : tie.invariant-loop-place
invariant-loop text line place₀ place = Typing text line place

abbrev decreases-loop : tie.decreases-loop-place
decreases-loop text line place₀ place = length text - place.at

pub param_type_spec : {M : Type 1} → statement M
param_type_spec =
    tie.close
    (tie.spec
    invariant-loop
    decreases-loop
    (λ c κs. search (rules, laws))
    (λ c. search (rules, laws))
    (λ c κs. search (rules, laws))
    (λ c κs. search (rules, laws))
    (λ c. search (rules, laws))
    (λ c. search (rules, laws))
    (λ c. search (rules, laws))
    (λ c. search (rules, laws)))
