-- Laws on the type of a P line. Assumes nothing.
use mathlib.Core.Path.{◌≡◌}
use mathlib.Core.List.{List}
use Prim.Native.Nat.{ℕ}
use Rattle.text.specs.declared.Place.{Place}
use Rattle.frame_definition.specs.Find.{FindsNumbered}
use Rattle.frame_definition.specs.declared.Field.{Field}
use Rattle.header_nodes.specs.Fields.{param_type}
use Rattle.std.specs.Prelude.{Option, Some, None}

module _ (t : List ℕ) (k : ℕ) (r : Option (Field × Place)) (finds : FindsNumbered t k r) where
  pub type_found : (f : Field) (q : Place) → r ≡ Some (f, q) → Some f.kind ≡ param_type t k
  unfolding param_type
  type_found f q e = rw (rw e at finds)

  pub type_nothing : r ≡ None → None ≡ param_type t k
  unfolding param_type
  type_nothing e = rw (rw e at finds)

pub ruleset type_laws = (type_found, type_nothing)
