-- `command_value::lookup::shown_by` meets its contract, by the laws of the crate. Assumes nothing.
use borrow.Author.Rules.{rules}
use Prim.Native.Nat.{◌-◌}
use lib.ListN.{length}
use Rattle.command_value.proofs.LookupLaws.{Showing}
use Rattle.command_value.proofs.Laws.{laws}
use Rattle.command_value.proofs.lookup.shown_by.Statement.{statement}
use Rattle.command_value.proofs.lookup.shown_by.Tie as tie

abbrev invariant-loop : tie.invariant-loop-place
invariant-loop text n place₀ array₀ variant₀ shown₀ place array variant shown = Showing text place₀ n array variant shown place

abbrev decreases-loop : tie.decreases-loop-place
decreases-loop text n place₀ array₀ variant₀ shown₀ place array variant shown = length text - place.at

pub shown_by_spec : {M : Type 1} → statement M
shown_by_spec =
    tie.close
    (tie.spec
    invariant-loop
    decreases-loop
    (λ c. search (rules, laws))
    (λ c κs. search (rules, laws))
    (λ c κs. search (rules, laws))
    (λ c. search (rules, laws))
    (λ c κs. search (rules, laws))
    (λ c. search (rules, laws))
    (λ c κs. search (rules, laws))
    (λ c. search (rules, laws))
    (λ c κs. search (rules, laws))
    (λ c κs. search (rules, laws))
    (λ c κs. search (rules, laws))
    (λ c κs. search (rules, laws))
    (λ c. search (rules, laws))
    (λ c. search (rules, laws))
    (λ c. search (rules, laws)))
