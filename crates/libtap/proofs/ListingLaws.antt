-- Laws of the answers on a listing as C has them. Assumes nothing.
use mathlib.Core.Path.{◌≡◌}
use mathlib.Core.List.{List}
use Prim.Native.Nat.{ℕ}
use Rattle.refusal.specs.declared.Refusal.{Refusal}
use Rattle.refusal.specs.Refusal.{number_of, carried_by}
use Rattle.listing.specs.declared.Judgement.{Judgement}
use Rattle.listing.specs.declared.Judgement.TheVariants as judgement
use Rattle.listing.specs.Judge.{Judges}
use Rattle.libtap.specs.declared.TapAnswer.{TapAnswer}
use Rattle.libtap.specs.Answers.{answered}
use Rattle.libtap.specs.Listings.{told_judgement, ToldJudgement}

module _ (x : Judgement) where
  pub tells-yes : (r : TapAnswer) → x ≡ judgement.Yes → r ≡ answered (0, 0) → r ≡ told_judgement x
  tells-yes r e is = rw e is

  pub tells_line : (line : ℕ) (r : TapAnswer) → x ≡ judgement.Differs line → r ≡ answered (0, line) → r ≡ told_judgement x
  tells_line line r e is = rw e is

  pub tells_unjudged : (y : Refusal) (r : TapAnswer) → x ≡ judgement.Refused y → r ≡ answered (number_of y, carried_by y) → r ≡ told_judgement x
  tells_unjudged y r e is = rw e is

  pub tells_judgement : (text mpdu : List ℕ) (region speed : ℕ) (listing : List ℕ) (r : TapAnswer) → Judges text mpdu region speed listing x
      → r ≡ told_judgement x → ToldJudgement text mpdu region speed listing r
  tells_judgement text mpdu region speed listing r so is-r = record { answer = x; judges = so; told_so = is-r }

pub ruleset listing_laws = (tells-yes, tells_line, tells_unjudged, tells_judgement)
