-- `command_schema::load` meets its contract, by the laws of the crate. Assumes nothing.
use borrow.Author.Rules.{rules}
use Prim.Native.Nat.{◌-◌}
use lib.ListN.{length}
use Rattle.command_schema.proofs.Loading.{Loading, load_laws}
use Rattle.command_schema.proofs.load.Statement.{statement}
use Rattle.command_schema.proofs.load.Tie as tie

abbrev invariant-loop : tie.invariant-loop-place
invariant-loop text table₀ place₀ n₀ table place n = Loading text table₀ table place n

abbrev decreases-loop : tie.decreases-loop-place
decreases-loop text table₀ place₀ n₀ table place n = length text - place.at

pub load_spec : {M : Type 1} → statement M
load_spec =
    tie.close
    (tie.spec
    invariant-loop
    decreases-loop
    (λ c κs. search (rules, load_laws))
    (λ c. search (rules, load_laws))
    (λ c κs. search (rules, load_laws))
    (λ c κs. search (rules, load_laws))
    (λ c. search (rules, load_laws))
    (λ c. search (rules, load_laws))
    (λ c. search (rules, load_laws))
    (λ c κs. search (rules, load_laws))
    (λ c κs. search (rules, load_laws))
    (λ c. search (rules, load_laws))
    (λ c. search (rules, load_laws))
    (λ c. search (rules, load_laws))
    (λ c. search (rules, load_laws))
    (λ c. search (rules, load_laws))
    (λ c. search (rules, load_laws))
    (λ c. search (rules, load_laws)))
