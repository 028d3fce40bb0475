-- `bench_walks::bench_decode_accepted` meets its contract, by the laws of the crate. Assumes nothing.
use Rattle.bench_walks.proofs.Laws.{laws}
use borrow.Author.Rules.{rules}
use Rattle.bench_walks.proofs.bench_decode_accepted.Statement.{statement}
use Rattle.bench_walks.proofs.bench_decode_accepted.Tie as tie

pub bench_decode_accepted_spec : {M : Type 1} → statement M
bench_decode_accepted_spec =
    tie.close
    (tie.spec
    (λ c κs. search (rules, laws))
    (λ c. search (rules, laws))
    (λ c κs. search (rules, laws))
    (λ c. search (rules, laws))
    (λ c κs. search (rules, laws))
    (λ c. search (rules, laws))
    (λ c. search (rules, laws))
    (λ c. search (rules, laws)))
