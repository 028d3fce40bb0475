-- Rules by which a payload has the same rows have the same answer, and leave the same table. Assumes nothing.
use mathlib.Core.Path.{◌≡◌, refl, subst}
use mathlib.Core.List.{List}
use Prim.Native.Nat.{ℕ}
use Rattle.frame.specs.declared.Rules.{Rules}
use Rattle.pti.specs.Payload.{rows_of, frames_by, said_by, table_after, Located, LocatedIn}
use Rattle.std.specs.Prelude.{Result, Ok, Err}
use Rattle.refusal.specs.declared.Refusal.{Refusal}

module _ (w v : Rules) (s : List ℕ) (same : rows_of w s ≡ rows_of v s) where
  pub frames-same : (room : ℕ) → frames_by w s room ≡ frames_by v s room
  frames-same room = rw same refl

  pub said_same : (room : ℕ) → said_by w s room ≡ said_by v s room
  said_same room = rw same refl

  pub table_same : (t : List ℕ) (r : Result ℕ Refusal) → table_after w s t r ≡ table_after v s t r
  table_same t (Ok n) = rw same refl
  table_same t (Err x) = refl

  pub located_same : (r : Result ℕ Refusal) → LocatedIn w s r → LocatedIn v s r
  located_same (Ok n) located = subst (Located s) same located
  located_same (Err x) located = located
