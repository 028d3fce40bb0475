-- `command_value::lookup::find_line` meets its contract, by the laws of the crate. Assumes nothing.
use borrow.Author.Rules.{rules}
use Prim.Native.Nat.{◌-◌}
use lib.ListN.{length}
use Rattle.command_value.proofs.LookupLaws.{Lining}
use Rattle.command_value.proofs.Laws.{laws}
use Rattle.command_value.proofs.lookup.find_line.Statement.{statement}
use Rattle.command_value.proofs.lookup.find_line.Tie as tie

abbrev invariant-loop : tie.invariant-loop-place
invariant-loop text n place₀ place = Lining text n place

abbrev decreases-loop : tie.decreases-loop-place
decreases-loop text n place₀ place = length text - place.at

pub find_line_spec : {M : Type 1} → statement M
find_line_spec =
    tie.close
    (tie.spec
    invariant-loop
    decreases-loop
    (λ c κs. search (rules, laws))
    (λ c. search (rules, laws))
    (λ c. search (rules, laws))
    (λ c κs. search (rules, laws))
    (λ c. search (rules, laws))
    (λ c. search (rules, laws))
    (λ c. search (rules, laws)))
