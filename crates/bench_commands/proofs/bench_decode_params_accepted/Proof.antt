-- `bench_commands::bench_decode_params_accepted` meets its contract, by the laws of the crate. Assumes nothing.
use Rattle.bench_commands.proofs.Laws.{laws}
use borrow.Author.Rules.{rules}
use Rattle.bench_commands.proofs.bench_decode_params_accepted.Statement.{statement}
use Rattle.bench_commands.proofs.bench_decode_params_accepted.Tie as tie

pub bench_decode_params_accepted_spec : {M : Type 1} → statement M
bench_decode_params_accepted_spec =
    tie.close
    (tie.spec
    (λ c κs. search (rules, laws))
    (λ c. search (rules, laws))
    (λ c κs. search (rules, laws))
    (λ c. search (rules, laws))
    (λ c κs. search (rules, laws))
    (λ c. search (rules, laws))
    (λ c. search (rules, laws))
    (λ c. search (rules, laws)))
