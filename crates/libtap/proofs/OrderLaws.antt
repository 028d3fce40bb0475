-- Laws of the answers on the order of headers as C has them. Assumes nothing.
use mathlib.Core.Path.{◌≡◌}
use Rattle.refusal.specs.declared.Refusal.{Refusal}
use Rattle.refusal.specs.Refusal.{number_of, carried_by}
use Rattle.libtap.specs.declared.TapAnswer.{TapAnswer}
use Rattle.libtap.specs.Answers.{answered}
use Rattle.libtap.specs.Orders.{told_harmless}
use Rattle.std.specs.Prelude.{Result, Ok, Err, Bool, true, false}

pub tells-yes : (x : Result Bool Refusal) (r : TapAnswer) → x ≡ Ok true → r ≡ answered (0, 1) → r ≡ told_harmless x
tells-yes x r e is = rw e is

pub tells-no : (x : Result Bool Refusal) (r : TapAnswer) → x ≡ Ok false → r ≡ answered (0, 0) → r ≡ told_harmless x
tells-no x r e is = rw e is

pub tells-neither : (x : Result Bool Refusal) (y : Refusal) (r : TapAnswer) → x ≡ Err y → r ≡ answered (number_of y, carried_by y) → r ≡ told_harmless x
tells-neither x y r e is = rw e is

pub ruleset order_laws = (tells-yes, tells-no, tells-neither)
