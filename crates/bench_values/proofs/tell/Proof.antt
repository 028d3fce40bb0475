-- `bench_values::tell` meets its contract, by the laws of the crate. Assumes nothing.
use Rattle.bench_values.proofs.Laws.{laws}
use borrow.Author.Rules.{rules}
use Rattle.bench_values.proofs.tell.Statement.{statement}
use Rattle.bench_values.proofs.tell.Tie as tie

pub tell_spec : {M : Type 1} → statement M
tell_spec =
    tie.close
    (tie.spec
    (λ c. search (rules, laws))
    (λ c. search (rules, laws))
    (λ c κs. search (rules, laws))
    (λ c. search (rules, laws))
    (λ c. search (rules, laws))
    (λ c. search (rules, laws))
    (λ c. search (rules, laws)))
