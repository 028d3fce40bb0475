-- The answers of the calls on bit masks as C has them.
use Rattle.std.specs.Prelude.{◌≡◌, List, ℕ, Result, Ok, Err}
use Rattle.refusal.specs.Refusal.{number_of, carried_by}
use Rattle.node_mask.specs.Nodes.{Lists}
use Rattle.header_nodes.specs.Answer.{HeaderNodes}
use Rattle.command_rules.specs.declared.Offsets.{Offsets}
use Rattle.command_nodes.specs.Answer.{CommandNodes}
use Rattle.libtap.specs.declared.TapAnswer.{TapAnswer}
use Rattle.refusal.specs.declared.Refusal.{Refusal}

-- how many nodes, or the refusal's number and what it carries
abbrev pub told_listed : Result ℕ Refusal → TapAnswer
told_listed (Ok n) = record { refusal = 0; value = n }
told_listed (Err x) = record { refusal = number_of x; value = carried_by x }

-- what `tap_mask_nodes` answers and leaves: what `mask_nodes` does, told so
pub record ToldMask (mask table : List ℕ) (r : TapAnswer) (table' : List ℕ) : Type 0 where
  pub answer : Result ℕ Refusal
  pub lists : Lists mask table answer table'
  pub told_so : r ≡ told_listed answer

-- what `tap_header_nodes` answers and leaves: what `header_nodes` does, told so
pub record ToldHeaderNodes (text mpdu : List ℕ) (region speed row : ℕ) (table : List ℕ) (r : TapAnswer) (table' : List ℕ) : Type 0 where
  pub answer : Result ℕ Refusal
  pub lists : HeaderNodes text mpdu region speed row table answer table'
  pub told_so : r ≡ told_listed answer

-- what `tap_command_nodes` answers and leaves: what `command_nodes` does, told so
pub record ToldCommandNodes (offsets : Offsets) (text payload : List ℕ) (row : ℕ) (table : List ℕ) (r : TapAnswer) (table' : List ℕ) : Type 0 where
  pub answer : Result ℕ Refusal
  pub lists : CommandNodes offsets text payload row table answer table'
  pub told_so : r ≡ told_listed answer
