-- What the contracts of `load_frames` and `judge` cite.
use Rattle.std.specs.Prelude.{◌≡◌, ℕ, ◌≤◌, List, length, take, Result, Ok, Err}
use Rattle.frame_text.specs.Rules.{verdict}
use Rattle.files.specs.declared.frame_names.FrameText.{FrameText}
use Rattle.files.specs.declared.frame_names.State.TheVariants.{Fine, Missing, Refused as RefusedBy}
use Rattle.refusal.specs.declared.Refusal.{Refusal}

-- the first n bytes of a slice are an accepted frame text
pub record Accepts (s : List ℕ) (n : ℕ) : Type 0 where
  pub inside : n ≤ length s
  pub accepted : verdict (take n s) ≡ Ok tt

-- what is told of n bytes by their verdict: all of them are the frame text, or none
abbrev pub judged : ℕ → Result (Unit {0}) Refusal → FrameText
judged n (Ok tt) = record { count = n; state = Fine }
judged n (Err x) = record { count = 0; state = RefusedBy x }

-- what is told of a file: that there is none, or what its verdict is, by as many bytes of it as stand in the slice
pub data Finds (s : List ℕ) : FrameText → Type 0 where
  none : Finds s (record { count = 0; state = Missing })
  some : (n : ℕ) → n ≤ length s → Finds s (judged n (verdict (take n s)))
