-- `command_value::lookup::is_ascii_at` meets its contract, by the laws of the crate. Assumes nothing.
use Rattle.command_value.proofs.Laws.{laws}
use borrow.Author.Rules.{rules}
use Rattle.command_value.proofs.lookup.is_ascii_at.Statement.{statement}
use Rattle.command_value.proofs.lookup.is_ascii_at.Tie as tie

pub is_ascii_at_spec : {M : Type 1} → statement M
is_ascii_at_spec =
    tie.close (tie.spec
    (λ c. search (rules, laws))
    (λ c κs. search (rules, laws))
    (λ c. search (rules, laws))
    (λ c κs. search (rules, laws))
    (λ c. search (rules, laws)))
