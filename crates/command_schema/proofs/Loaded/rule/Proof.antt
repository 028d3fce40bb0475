-- `command_schema::Loaded::rule` meets its contract, by the laws of the crate. Assumes nothing.
use borrow.Author.Rules.{rules}
use Rattle.command_schema.proofs.Laws.{laws}
use Rattle.command_schema.proofs.Loaded.rule.Statement.{statement}
use Rattle.command_schema.proofs.Loaded.rule.Tie as tie

pub rule_spec : {M : Type 1} → statement M
rule_spec = tie.close (tie.spec (λ c. search (rules, laws)) (λ c. search (rules, laws)) (λ c. search (rules, laws)))
