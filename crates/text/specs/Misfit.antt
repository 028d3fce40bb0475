-- R1, R2, R3 (docs/RULES.md): the refusal of a line, by what is wrong with it.
use Rattle.std.specs.Prelude.{ℕ}
use Rattle.refusal.specs.declared.Refusal.{Refusal}
use Rattle.refusal.specs.declared.Refusal.TheVariants.{Form, Limit, Owner}
use Rattle.text.specs.declared.Misfit.{Misfit}
use Rattle.text.specs.declared.Misfit.TheVariants.{Passed, Lost, Wrong}

-- line n is refused
abbrev pub refused_at : Misfit → ℕ → Refusal
refused_at Passed n = Limit n
refused_at Lost n = Owner n
refused_at Wrong n = Form n
