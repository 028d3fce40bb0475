-- TO7 and TO8 (docs/RULES.md): a capture of many payloads, each added by a call of its own; and how the counts stand to the frames.
use Rattle.std.specs.Prelude.{◌≡◌, List, [], ◌∷◌, ℕ, zero, suc, ◌+◌, length, Result, Ok, Err}
use Rattle.refusal.specs.declared.Refusal.TheVariants.{PastLimit}
use Rattle.frame.specs.declared.Reading.{Reading}
use Rattle.frame.specs.Frame.{rules_of}
use Rattle.pti.specs.Payload.{rows_of}
use Rattle.totals.specs.Totals.{beams_at, refused_at, growth, added_of, totals_after}
use Rattle.refusal.specs.declared.Refusal.{Refusal}

-- the sum of what the places below n hold
unfoldable pub sum_below : ℕ → (ℕ → ℕ) → ℕ
sum_below zero g = 0
sum_below (suc n) g = g n + sum_below n g

-- TO8: the counts by key and rate, the beams and those that were refused, together
abbrev pub counted : (ℕ → ℕ) → ℕ
counted g = sum_below 1024 g + g beams_at + g (refused_at 5) + g (refused_at 6) + g (refused_at 7)

-- by this firmware, reading, text and region
module _ (firmware : ℕ) (reading : Reading) (t : List ℕ) (region : ℕ) where
  -- TO7: the totals after one payload
  abbrev pub after : List ℕ → List ℕ → List ℕ
  after s totals = totals_after (rules_of firmware reading) t region s totals (added_of firmware reading t region s totals)

  -- TO7: and after a run of them
  abbrev pub after_run : List (List ℕ) → List ℕ → List ℕ
  after_run [] totals = totals
  after_run (s ∷ ss) totals = after_run ss (after s totals)

  abbrev pub onto : Result (Unit {0}) Refusal → List ℕ → List (List ℕ) → List (List ℕ)
  onto (Ok tt) s ss = s ∷ ss
  onto (Err x) s ss = ss

  -- TO7: the payloads of the run that are not refused
  abbrev pub taken : List (List ℕ) → List ℕ → List (List ℕ)
  taken [] totals = []
  taken (s ∷ ss) totals = onto (added_of firmware reading t region s totals) s (taken ss (after s totals))

  -- TO7: what these payloads add at a place
  abbrev pub growth_of : List (List ℕ) → ℕ → ℕ
  growth_of [] i = 0
  growth_of (s ∷ ss) i = growth (rules_of firmware reading) t region s i + growth_of ss i

  -- TO8: how many frames they have
  abbrev pub frames_of : List (List ℕ) → ℕ
  frames_of [] = 0
  frames_of (s ∷ ss) = length (rows_of (rules_of firmware reading) s) + frames_of ss

  -- TO7: 10 comes for none of them
  abbrev pub NoTen : List (List ℕ) → List ℕ → Type 0
  NoTen [] totals = Unit {0}
  NoTen (s ∷ ss) totals = (added_of firmware reading t region s totals ≡ Err PastLimit → ⊥) × NoTen ss (after s totals)
