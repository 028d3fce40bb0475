-- `command_schema::items::gather` meets its contract, by the laws of the crate. Assumes nothing.
use borrow.Author.Rules.{rules}
use Prim.Native.Nat.{◌-◌}
use lib.ListN.{length}
use Rattle.command_schema.proofs.Gathering.{Gathering, gather_laws}
use Rattle.command_schema.proofs.items.gather.Statement.{statement}
use Rattle.command_schema.proofs.items.gather.Tie as tie

abbrev invariant-loop : tie.invariant-loop-place
invariant-loop text gathered₀ place₀ gathered place = Gathering text place₀ gathered place

abbrev decreases-loop : tie.decreases-loop-place
decreases-loop text gathered₀ place₀ gathered place = length text - place.at

pub gather_spec : {M : Type 1} → statement M
gather_spec =
    tie.close
    (tie.spec
    invariant-loop
    decreases-loop
    (λ c κs. search (rules, gather_laws))
    (λ c. search (rules, gather_laws))
    (λ c κs. search (rules, gather_laws))
    (λ c κs. search (rules, gather_laws))
    (λ c. search (rules, gather_laws))
    (λ c κs. search (rules, gather_laws))
    (λ c. search (rules, gather_laws))
    (λ c. search (rules, gather_laws))
    (λ c κs. search (rules, gather_laws))
    (λ c κs. search (rules, gather_laws))
    (λ c. search (rules, gather_laws))
    (λ c. search (rules, gather_laws))
    (λ c. search (rules, gather_laws)))
