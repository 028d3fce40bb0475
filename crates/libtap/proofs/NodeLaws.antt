-- Laws of the answers on bit masks as C has them. Assumes nothing.
use mathlib.Core.Path.{◌≡◌}
use mathlib.Core.Bool.{Bool}
use mathlib.Core.List.{List}
use Prim.Native.Nat.{ℕ}
use Rattle.refusal.specs.declared.Refusal.{Refusal}
use Rattle.refusal.specs.Refusal.{number_of, carried_by}
use Rattle.node_mask.specs.Nodes.{Lists}
use Rattle.header_nodes.specs.Answer.{HeaderNodes}
use Rattle.command_rules.specs.declared.Offsets.{Offsets}
use Rattle.command.specs.Answer.{offsets_by}
use Rattle.command_nodes.specs.Answer.{CommandNodes}
use Rattle.libtap.specs.declared.TapAnswer.{TapAnswer}
use Rattle.libtap.specs.Answers.{answered}
use Rattle.libtap.specs.Nodes.{told_listed, ToldMask, ToldHeaderNodes, ToldCommandNodes}
use Rattle.std.specs.Prelude.{Result, Ok, Err}

pub tells_nodes : (x : Result ℕ Refusal) (n : ℕ) (r : TapAnswer) → x ≡ Ok n → r ≡ answered (0, n) → r ≡ told_listed x
tells_nodes x n r e is = rw e is

pub tells_unlisted : (x : Result ℕ Refusal) (y : Refusal) (r : TapAnswer) → x ≡ Err y → r ≡ answered (number_of y, carried_by y) → r ≡ told_listed x
tells_unlisted x y r e is = rw e is

pub tells-mask : (mask t : List ℕ) (x : Result ℕ Refusal) (r : TapAnswer) (t' : List ℕ) → Lists mask t x t' → r ≡ told_listed x → ToldMask mask t r t'
tells-mask mask t x r t' so is-r = record { answer = x; lists = so; told_so = is-r }

pub tells-header_nodes : (text mpdu : List ℕ) (region speed row : ℕ) (t : List ℕ) (x : Result ℕ Refusal) (r : TapAnswer) (t' : List ℕ)
    → HeaderNodes text mpdu region speed row t x t' → r ≡ told_listed x → ToldHeaderNodes text mpdu region speed row t r t'
tells-header_nodes text mpdu region speed row t x r t' so is-r = record { answer = x; lists = so; told_so = is-r }

pub tells_command_nodes : (position : Bool) (offsets : Offsets) (text payload : List ℕ) (row : ℕ) (t : List ℕ) (x : Result ℕ Refusal) (r : TapAnswer)
    (t' : List ℕ)
    → CommandNodes offsets text payload row t x t' → offsets ≡ offsets_by position → r ≡ told_listed x
    → ToldCommandNodes (offsets_by position) text payload row t r t'
tells_command_nodes position offsets text payload row t x r t' so e is-r = record { answer = x; lists = rw e at so; told_so = is-r }

pub ruleset node_laws = (tells_nodes, tells_unlisted, tells-mask, tells-header_nodes, tells_command_nodes)
