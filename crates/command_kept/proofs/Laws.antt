-- Laws of the judgement on a line. Assumes nothing.
use mathlib.Core.Path.{◌≡◌, sym, ◌∙◌}
use mathlib.Core.Bool.{Bool, false}
use Prim.Native.Nat.{ℕ, ◌<◌}
use borrow.Author.Tests.{leb-false}
use Rattle.command_kept.specs.Kept.{full, judged_param, judged_group, judged_item, judged}
use Rattle.command_kept.specs.declared.Form.{Form}
use Rattle.command_kept.specs.declared.Form.TheVariants.{Param, Group, Item}
use Rattle.command_kept.specs.declared.Kept.{Kept}
use Rattle.text.specs.declared.Misfit.{Misfit}
use Rattle.std.specs.Prelude.{Option, Some, Result}

-- ---- is there room for a Q or G
pub room : (k : Kept) (b : Bool) → b ≡ full k → b ≡ false → k.count < 256
room k b h e = leb-false 256 k.count (sym h ∙ e)

-- ---- by the form
module _ (k : Kept) (f : Option Form) (r : Result Kept Misfit) (n : ℕ) where
  pub judge-param : f ≡ Some (Param n) → r ≡ judged_param k n → r ≡ judged k f
  judge-param e h = rw e h

  pub judge_group : f ≡ Some (Group n) → r ≡ judged_group k n → r ≡ judged k f
  judge_group e h = rw e h

  pub judge-item : f ≡ Some (Item n) → r ≡ judged_item k n → r ≡ judged k f
  judge-item e h = rw e h

pub ruleset judge_laws = (judge-param, judge_group, judge-item)
