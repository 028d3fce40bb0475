-- OV4 and OV5 (docs/RULES.md): what the calls answer.
use Rattle.std.specs.Prelude.{ℕ, Bool, cond, ◌≡◌, List, eqb, Result, Ok, Err}
use Rattle.frame_text.specs.Rules.{verdict}
use Rattle.overlaps.specs.Overlaps.{tell_numbers, harmless}
use Rattle.overlaps.specs.declared.Overlap.{Overlap}
use Rattle.overlaps.specs.declared.Overlap.TheVariants as overlap
use Rattle.refusal.specs.declared.Refusal.{Refusal}

abbrev pub overlap_of : ℕ → Overlap
overlap_of told =
    cond (eqb told 0) overlap.NoPath
    (cond (eqb told 1) overlap.SameValues (cond (eqb told 2) overlap.OwnFields (cond (eqb told 3) overlap.Apart overlap.OtherBase)))

abbrev pub judged_pair : Result (Unit {0}) Refusal → Overlap → Result Overlap Refusal
judged_pair (Ok tt) r = Ok r
judged_pair (Err x) r = Err x

abbrev pub judged_text : Result (Unit {0}) Refusal → Bool → Result Bool Refusal
judged_text (Ok tt) b = Ok b
judged_text (Err x) b = Err x

-- OV4: what `tell_apart` answers
pub record TellsApart (t : List ℕ) (a b : ℕ) (r : Result Overlap Refusal) : Type 0 where
  pub answer : r ≡ judged_pair (verdict t) (overlap_of (tell_numbers t a b))

-- OV5: what `is_harmless` answers
pub record TellsHarmless (t : List ℕ) (r : Result Bool Refusal) : Type 0 where
  pub answer : r ≡ judged_text (verdict t) (harmless t)
