-- The laws that the proofs of this crate and of its callers go by. Assumes nothing.
use Rattle.std.proofs.Common.{◌≡◌, ℕ, ◌≤◌, List, length, take, sym, refl, arith, length-take-le}
use Rattle.refusal.specs.declared.Refusal.{Refusal}
use Rattle.frame_text.specs.Rules.{verdict}
use Rattle.files.specs.Accepted.{Accepts, judged, Finds, none, some}
use Rattle.files.specs.declared.frame_names.FrameText.{FrameText}
use Rattle.files.specs.declared.frame_names.State.TheVariants.{Missing}
use Rattle.std.specs.Prelude.{Result, Ok, Err}

-- ---- of a file: no bytes are an accepted text
pub none-accepted : (s : List ℕ) → Accepts s 0
none-accepted s = record { inside = omega arith; accepted = refl }

pub finds_none : (s : List ℕ) → Finds s (record { count = 0; state = Missing })
finds_none s = none

module _ (s : List ℕ) (n : ℕ) (r : FrameText) (is : r ≡ judged n (verdict (take n s))) (i : n ≤ length s) where
  pub finds_some : Finds s r
  finds_some = rw is (some n i)

  pub judged-accepted : Accepts s r.count
  judged-accepted = rw is (by (verdict (take n s)) refl)
    where
      by : (v : Result (Unit {0}) Refusal) → verdict (take n s) ≡ v → Accepts s (judged n v).count
      by (Ok tt) e = record { inside = i; accepted = e }
      by (Err x) e = none-accepted s

pub ruleset laws = (none-accepted, finds_none, finds_some, judged-accepted)

-- for callers: the part of the slice that is the text
pub accepted-count : (s : List ℕ) (n : ℕ) → Accepts s n → n ≡ length (take n s)
accepted-count s n h = sym (length-take-le n s h.inside)

pub accepted-inside : (s : List ℕ) (n : ℕ) → Accepts s n → n ≤ length s
accepted-inside s n h = h.inside

pub is_accepted : (s : List ℕ) (n : ℕ) → Accepts s n → verdict (take n s) ≡ Ok tt
is_accepted s n h = h.accepted
