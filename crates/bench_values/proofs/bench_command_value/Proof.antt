-- `bench_values::bench_command_value` meets its contract, by the laws of the crate. Assumes nothing.
use Rattle.bench_values.proofs.Laws.{laws}
use borrow.Author.Rules.{rules}
use Rattle.bench_values.proofs.bench_command_value.Statement.{statement}
use Rattle.bench_values.proofs.bench_command_value.Tie as tie

pub bench_command_value_spec : {M : Type 1} → statement M
bench_command_value_spec =
    tie.close
    (tie.spec
    (λ c κs. search (rules, laws))
    (λ c. search (rules, laws))
    (λ c κs. search (rules, laws))
    (λ c. search (rules, laws))
    (λ c κs. search (rules, laws))
    (λ c. search (rules, laws))
    (λ c. search (rules, laws))
    (λ c. search (rules, laws)))
