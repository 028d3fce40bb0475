-- Laws of the benchmark's calls. Assumes nothing.
use mathlib.Core.Path.{◌≡◌, refl, sym, ap, ◌∙◌}
use mathlib.Core.List.{List}
use Prim.Native.Nat.{ℕ, ◌+◌}
use lib.ListN.{length}
use Rattle.refusal.specs.declared.Refusal.{Refusal}
use Rattle.refusal.specs.Refusal.{number_of}
use Rattle.command_text.specs.Rules.{verdict}
use Rattle.command_rules.specs.declared.Offsets.TheVariants.{Answered}
use Rattle.command.specs.Answer.{told, answer_of, DecodesBy, Decodes}
use Rattle.command.specs.declared.Rows.{Rows}
use Rattle.refusal.proofs.Numbers.{numbered}
use Rattle.bench_commands.specs.Told.{in_one}
use Rattle.std.specs.Prelude.{Result, Ok, Err}

pub tells-rows : (x : Result Rows Refusal) (rows : Rows) (n : ℕ) → x ≡ Ok rows → n ≡ rows.count → n ≡ in_one (told x)
unfolding told in_one
tells-rows x rows n e is = rw (e, is) refl

pub tells_refusal : (x : Result Rows Refusal) (y : Refusal) (n : ℕ) → x ≡ Err y → n ≡ number_of y → 1000000 + n ≡ in_one (told x)
unfolding told in_one
tells_refusal x y n e is = rw (e, is, numbered y) refl

pub tells-decoded : (t d table : List ℕ) (x : Result Rows Refusal) (table' : List ℕ) (r n : ℕ) → Decodes Answered t d table (told x) table'
    → r ≡ in_one (told x)
    → length table ≡ n → r ≡ in_one (answer_of Answered t d n)
tells-decoded t d table x table' r n decodes is size = rw (← size) (is ∙ ap in_one decodes.answer)

pub tells-accepted : (t d table : List ℕ) (x : Result Rows Refusal) (table' : List ℕ) (r n : ℕ) → DecodesBy Answered t d table (told x) table'
    → verdict t ≡ Ok tt
    → r ≡ in_one (told x) → length table ≡ n → r ≡ in_one (answer_of Answered t d n)
unfolding answer_of
tells-accepted t d table x table' r n decodes accepted is size = rw (← size, accepted) (is ∙ ap in_one decodes.answer)

pub tells_unfit : (t d : List ℕ) (n : ℕ) (v : Result (Unit {0}) Refusal) (x : Refusal) (r : ℕ) → v ≡ verdict t → v ≡ Err x
    → r ≡ in_one (told (Err x))
    → r ≡ in_one (answer_of Answered t d n)
unfolding told answer_of
tells_unfit t d n v x r e q is = rw (sym e ∙ q) is

pub accepted-text : (t : List ℕ) (v : Result (Unit {0}) Refusal) → v ≡ verdict t → v ≡ Ok tt → verdict t ≡ Ok tt
accepted-text t v e q = sym e ∙ q

pub ruleset laws = (tells-rows, tells_refusal, tells-decoded, tells-accepted, tells_unfit, accepted-text)
