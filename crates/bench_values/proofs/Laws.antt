-- Laws of the benchmark's calls on values. Assumes nothing.
use mathlib.Core.Path.{◌≡◌, refl, sym, ap, ◌∙◌}
use mathlib.Core.List.{List}
use Prim.Native.Nat.{ℕ, ◌+◌}
use lib.ListN.{length}
use Rattle.refusal.specs.declared.Refusal.{Refusal}
use Rattle.refusal.specs.Refusal.{number_of}
use Rattle.frame_text.specs.Rules.{verdict}
use Rattle.header_nodes.specs.Answer.{answer_of}
use Rattle.header_value.specs.Answer.{HeaderValue}
use Rattle.command_text.specs.Rules.{verdict as commandVerdict}
use Rattle.command_rules.specs.declared.Offsets.{Offsets}
use Rattle.command_row.specs.Answer.{row_of}
use Rattle.command_value.specs.Answer.{CommandValue}
use Rattle.bench_values.specs.Told.{told, header_value, command_value}
use Rattle.std.specs.Prelude.{Result, Ok, Err}

pub tells-length : (x : Result ℕ Refusal) (n : ℕ) → x ≡ Ok n → n ≡ told x
tells-length x n e = rw e refl

pub tells_refusal : (x : Result ℕ Refusal) (y : Refusal) (n : ℕ) → x ≡ Err y → n ≡ number_of y → 100000 + n ≡ told x
tells_refusal x y n e is = rw (e, is) refl

pub tells-value : (t d : List ℕ) (region speed k : ℕ) (b : List ℕ) (x : Result ℕ Refusal) (b' : List ℕ) (r n : ℕ)
    → HeaderValue t d region speed k b x b' → r ≡ told x
    → length b ≡ n → r ≡ told (header_value t d region speed k n)
unfolding header_value
tells-value t d region speed k b x b' r n shows is size = rw (← size) (is ∙ ap told shows.answer)

pub tells_unfit : (t d : List ℕ) (region speed k n : ℕ) (v : Result (Unit {0}) Refusal) (x : Refusal) (r : ℕ) → v ≡ verdict t → v ≡ Err x
    → r ≡ told (Err x)
    → r ≡ told (header_value t d region speed k n)
unfolding header_value answer_of
tells_unfit t d region speed k n v x r e q is = rw (sym e ∙ q) is

pub tells_row : (offsets : Offsets) (t p : List ℕ) (k : ℕ) (b : List ℕ) (x : Result ℕ Refusal) (b' : List ℕ) (r n : ℕ)
    → CommandValue offsets t p k b x b' → r ≡ told x
    → length b ≡ n → r ≡ told (command_value offsets t p k n)
unfolding command_value
tells_row offsets t p k b x b' r n shows is size = rw (← size) (is ∙ ap told shows.answer)

pub tells_unfit_command : (offsets : Offsets) (t p : List ℕ) (k n : ℕ) (v : Result (Unit {0}) Refusal) (x : Refusal) (r : ℕ) → v ≡ commandVerdict t
    → v ≡ Err x
    → r ≡ told (Err x) → r ≡ told (command_value offsets t p k n)
unfolding command_value row_of
tells_unfit_command offsets t p k n v x r e q is = rw (sym e ∙ q) is

pub accepted_command : (t : List ℕ) (v : Result (Unit {0}) Refusal) → v ≡ commandVerdict t → v ≡ Ok tt → commandVerdict t ≡ Ok tt
accepted_command t v is e = sym is ∙ e

pub accepted-text : (t : List ℕ) (v : Result (Unit {0}) Refusal) → v ≡ verdict t → v ≡ Ok tt → verdict t ≡ Ok tt
accepted-text t v is e = sym is ∙ e

pub ruleset laws = (tells-length, tells_refusal, tells-value, tells_unfit, tells_row, tells_unfit_command, accepted_command, accepted-text)
