-- `command_schema::items::Gathered::note` meets its contract, by the laws of the crate. Assumes nothing.
use Rattle.command_schema.proofs.Laws.{laws}
use borrow.Author.Rules.{rules}
use Rattle.command_schema.proofs.items.Gathered.note.Statement.{statement}
use Rattle.command_schema.proofs.items.Gathered.note.Tie as tie

pub note_spec : {M : Type 1} → statement M
note_spec =
    tie.close
    (tie.spec
    (λ c κs. search (rules, laws))
    (λ c κs. search (rules, laws))
    (λ c κs. search (rules, laws))
    (λ c κs. search (rules, laws))
    (λ c κs. search (rules, laws))
    (λ c. search (rules, laws))
    (λ c. search (rules, laws))
    (λ c. search (rules, laws))
    (λ c. search (rules, laws))
    (λ c. search (rules, laws))
    (λ c. search (rules, laws)))
