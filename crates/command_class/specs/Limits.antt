-- T34 (docs/RULES.md): the limits of T33, said of all the records of a text.
use Rattle.std.specs.Prelude.{◌≤◌, List, [], ◌∷◌, true, ◌≡◌}
use Rattle.command_text.specs.Form.{Record}
use Rattle.command_text.specs.Rules.{begins, count, items}

-- T33: what stands under each Q, and under each G, which owns none
abbrev pub FewUnderEach : List Record → Type 0
FewUnderEach [] = Unit {0}
FewUnderEach (r ∷ rs) = (begins r ≡ true → items rs ≤ 32) × FewUnderEach rs

-- T34: no limit is passed
pub record WithinLimits (rs : List Record) : Type 0 where
  pub lines : count rs ≤ 256
  pub under : FewUnderEach rs
