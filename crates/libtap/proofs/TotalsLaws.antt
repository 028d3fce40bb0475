-- Laws of the answers on totals as C has them. Assumes nothing.
use mathlib.Core.Path.{◌≡◌}
use mathlib.Core.Bool.{Bool}
use mathlib.Core.List.{List}
use Prim.Native.Nat.{ℕ}
use Rattle.refusal.specs.declared.Refusal.{Refusal}
use Rattle.refusal.specs.Refusal.{number_of, carried_by}
use Rattle.frame.specs.declared.Reading.{Reading}
use Rattle.frame.specs.Frame.{reading_by}
use Rattle.buffer.specs.Buffer.{Writes}
use Rattle.totals.specs.Totals.{Adds}
use Rattle.totals_text.specs.Text.{text_of}
use Rattle.libtap.specs.declared.TapAnswer.{TapAnswer}
use Rattle.libtap.specs.Answers.{answered}
use Rattle.libtap.specs.Values.{told_written}
use Rattle.libtap.specs.Totals.{told_added, ToldAdded, ToldTotals}
use Rattle.std.specs.Prelude.{Result, Ok, Err}

pub tells-counted : (x : Result (Unit {0}) Refusal) (r : TapAnswer) → x ≡ Ok tt → r ≡ answered (0, 0) → r ≡ told_added x
tells-counted x r e is = rw e is

pub tells-not_added : (x : Result (Unit {0}) Refusal) (y : Refusal) (r : TapAnswer) → x ≡ Err y → r ≡ answered (number_of y, carried_by y) → r ≡ told_added x
tells-not_added x y r e is = rw e is

pub tells_added : (firmware : ℕ) (reading : Reading) (family : Bool) (text : List ℕ) (region : ℕ) (s totals : List ℕ) (x : Result (Unit {0}) Refusal) (r : TapAnswer)
    (totals' : List ℕ) → Adds firmware reading text region s totals x totals' → reading ≡ reading_by family → r ≡ told_added x
    → ToldAdded firmware (reading_by family) text region s totals r totals'
tells_added firmware reading family text region s totals x r totals' so is-reading is-r =
    record { answer = x; adds = rw is-reading at so; told_so = is-r }

pub tells_totals : (totals b : List ℕ) (x : Result ℕ Refusal) (r : TapAnswer) (b' : List ℕ) → Writes (text_of totals) b x b' → r ≡ told_written x
    → ToldTotals totals b r b'
tells_totals totals b x r b' so is-r = record { answer = x; writes = so; told_so = is-r }

pub ruleset totals_laws = (tells-counted, tells-not_added, tells_added, tells_totals)
