-- Laws of validations. Assumes nothing.
use mathlib.Core.Path.{◌≡◌, refl, sym, ap, ◌∙◌}
use mathlib.Core.Bool.{Bool, true, false, not, ◌&&◌, ◌||◌}
use mathlib.Core.List.{List, []}
use Prim.Native.Nat.{ℕ, ◌-◌, ◌<◌}
use native.Mathlib.Omega.{arith}
use lib.Dec.{eqb}
use lib.ListN.{length}
use Rattle.text.specs.Place.{part_of}
use Rattle.text.specs.Records.{Readable}
use Rattle.text.specs.declared.Place.{Place}
use Rattle.text.specs.declared.Part.{Part}
use Rattle.frame_text.specs.Form.{names}
use Rattle.frame_text.specs.Rules.{rules}
use Rattle.frame_definition.specs.Definition.{below, validations}
use Rattle.frame_definition.specs.Find.{from, IsValidation, FindsValidation}
use Rattle.frame_definition.specs.declared.NextValidation.{NextValidation}
use Rattle.frame_definition.specs.declared.NextValidation.TheVariants as next
use Rattle.header_rules.specs.Data.{Name}
use Rattle.header_rules.specs.Answer.{is_value}
use Rattle.header_rules.specs.Rows.{Row, flat_value}
use Rattle.header_rules.specs.Flat.{flat_meets}
use Rattle.header_rules.specs.Decide.{differs, ruled_out}
use Rattle.header_paths.specs.Lookup.{valued}
use Rattle.header_validations.specs.Validations.{met, other}
use Rattle.std.specs.Prelude.{Option, Some, None}

-- ---- one V
pub path-part : (t : List ℕ) (ns : ℕ → Name) (rows : List Row) (path : Part) (part : List ℕ) (r : Option ℕ) → part ≡ part_of t path
    → r ≡ valued (flat_value ns rows (names part) 0)
    → r ≡ valued (flat_value ns rows (names (part_of t path)) 0)
path-part t ns rows path part r e h = rw (← e) h

met_is : (o : Option ℕ) (v : ℕ) → met (valued o) v ≡ is_value o v
met_is None v = refl
met_is (Some u) v = refl

other_is : (o : Option ℕ) (v : ℕ) → other (valued o) v ≡ differs o v
other_is None v = refl
other_is (Some u) v = refl

pub met-value : (r : Option ℕ) (u v : ℕ) → r ≡ Some u → eqb u v ≡ met r v
met-value r u v e = rw e refl

pub met-nothing : (r : Option ℕ) (v : ℕ) → r ≡ None → false ≡ met r v
met-nothing r v e = rw e refl

pub other-value : (r : Option ℕ) (u v : ℕ) → r ≡ Some u → not (eqb u v) ≡ other r v
other-value r u v e = rw e refl

pub other-nothing : (r : Option ℕ) (v : ℕ) → r ≡ None → false ≡ other r v
other-nothing r v e = rw e refl

-- ---- V by V: what is left decides
pub validation_less : (t : List ℕ) (p : Place) (r : NextValidation) (path : Part) (v : ℕ) (q : Place) → FindsValidation t p r → r ≡ next.At path v q
    → length t - q.at < length t - p.at
validation_less t p r path v q found e = let is : IsValidation t p q path v = rw e at found in omega (arith, is.on, is.readable.inn.at_in)

module _ (t : List ℕ) (ns : ℕ → Name) (rows : List Row) where
  pub record Meeting (p₀ p : Place) : Type 0 where
    pub readable : Readable rules t p
    pub left : flat_meets ns rows (validations (below (from t p₀))) ≡ flat_meets ns rows (validations (below (from t p)))

  pub record Ruling (p₀ p : Place) : Type 0 where
    pub readable : Readable rules t p
    pub left : ruled_out ns rows (validations (below (from t p₀))) ≡ ruled_out ns rows (validations (below (from t p)))

  pub meeting_starts : (p : Place) → Readable rules t p → Meeting p p
  meeting_starts p r = record { readable = r; left = refl }

  pub ruling_starts : (p : Place) → Readable rules t p → Ruling p p
  ruling_starts p r = record { readable = r; left = refl }

  module _ (p₀ p : Place) (r : NextValidation) (found : FindsValidation t p r) where
    pub met_all : Meeting p₀ p → r ≡ next.Nothing → true ≡ flat_meets ns rows (validations (below (from t p₀)))
    unfolding flat_meets
    met_all m e = let None : validations (below (from t p)) ≡ [] = rw e at found in sym (m.left ∙ rw None refl)

    pub ruled_none : Ruling p₀ p → r ≡ next.Nothing → false ≡ ruled_out ns rows (validations (below (from t p₀)))
    unfolding ruled_out
    ruled_none m e = let None : validations (below (from t p)) ≡ [] = rw e at found in sym (m.left ∙ rw None refl)

    module _ (path : Part) (v : ℕ) (q : Place) (e : r ≡ next.At path v q) where
      is : IsValidation t p q path v
      is = rw e at found

      module _ (x : Option ℕ) (b : Bool) (is_x : x ≡ valued (flat_value ns rows (names (part_of t path)) 0)) where
        module _ (m : Meeting p₀ p) (is_b : b ≡ met x v) where
          test : b ≡ is_value (flat_value ns rows (names (part_of t path)) 0) v
          test = is_b ∙ ap (λ (y : Option ℕ). met y v) is_x ∙ met_is (flat_value ns rows (names (part_of t path)) 0) v

          one_met : flat_meets ns rows (validations (below (from t p₀))) ≡ (b && flat_meets ns rows (validations (below (from t q))))
          unfolding flat_meets
          one_met = m.left ∙ rw (is.first, ← test) refl

          pub not-met : b ≡ false → false ≡ flat_meets ns rows (validations (below (from t p₀)))
          not-met f = sym (rw f at one_met)

          pub meeting_more : b ≡ true → Meeting p₀ q
          meeting_more f = record { readable = is.readable; left = rw f at one_met }

        module _ (m : Ruling p₀ p) (is_b : b ≡ other x v) where
          differing : b ≡ differs (flat_value ns rows (names (part_of t path)) 0) v
          differing = is_b ∙ ap (λ (y : Option ℕ). other y v) is_x ∙ other_is (flat_value ns rows (names (part_of t path)) 0) v

          one_ruled : ruled_out ns rows (validations (below (from t p₀))) ≡ (b || ruled_out ns rows (validations (below (from t q))))
          unfolding ruled_out
          one_ruled = m.left ∙ rw (is.first, ← differing) refl

          pub ruled_out_lem : b ≡ true → true ≡ ruled_out ns rows (validations (below (from t p₀)))
          ruled_out_lem f = sym (rw f at one_ruled)

          pub ruling_more : b ≡ false → Ruling p₀ q
          ruling_more f = record { readable = is.readable; left = rw f at one_ruled }

pub ruleset laws = (
  path-part,
  met-value,
  met-nothing,
  other-value,
  other-nothing,
  meeting_starts,
  ruling_starts,
  met_all,
  ruled_none,
  validation_less,
  not-met,
  meeting_more,
  ruled_out_lem,
  ruling_more,
)
