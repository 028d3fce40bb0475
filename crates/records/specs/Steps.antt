-- What one step over the records of a payload answers: a one-step view of `bodies_from`.
use Rattle.std.specs.Prelude.{◌≡◌, List, [], ◌∷◌, ℕ, ◌+◌, ◌-◌, ◌≤◌, ◌<◌, length, Option, Some, None}
use Rattle.records.specs.declared.Span.{Span}
use Rattle.records.specs.Records.{bodies_from, span_of}

-- the body b comes first from the place on, and lies inside the payload, two bytes or more behind it; the others follow at its end and two bytes
pub record Leads (s : List ℕ) (at : ℕ) (b : Span) : Type 0 where
  pub first : bodies_from s at ≡ (b.start.0, b.end.0 - b.start.0) ∷ bodies_from s (b.end.0 + 2)
  pub after : at + 2 ≤ b.start.0
  pub ordered : b.start.0 ≤ b.end.0
  pub inside : b.end.0 < length s

abbrev pub Follows : List ℕ → ℕ → Option Span → Type 0
Follows s at (Some b) = Leads s at b
Follows s at None = bodies_from s at ≡ []

-- the span of body k, inside the payload
pub record IsBody (s : List ℕ) (k : ℕ) (b : Span) : Type 0 where
  pub is : span_of s k ≡ (b.start.0, b.end.0 - b.start.0)
  pub ordered : b.start.0 ≤ b.end.0
  pub inside : b.end.0 ≤ length s
