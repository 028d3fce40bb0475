-- The laws that the proofs of this crate's functions go by. Assumes nothing.
use mathlib.Core.Bool.{Bool, true, false}
use mathlib.Core.Path.{◌≡◌, refl, ◌∙◌}
use mathlib.Core.List.{List, [], ◌∷◌}
use Prim.Native.Nat.{ℕ, ◌≤◌, ◌<◌}
use native.Mathlib.Omega.{arith}
use lib.ListN.{length, take, drop}
use Rattle.text.specs.Text.{fields, field, same}
use Rattle.text.proofs.Laws.{done}
use Rattle.readers.specs.Numeral.{says}
use Rattle.readers.specs.Lines.{lines_in, line_at, Follows}
use Rattle.readers.specs.Catalog.{has_numbers, is_of, first_of}
use Rattle.readers.proofs.lines.Laws.{line_first}

-- ---- one line
module _ (l f : List ℕ) (class command : ℕ) (b : Bool) where
  pub class_is : (g : List ℕ) (r : Bool) → f ≡ field 1 (fields l) → b ≡ says class f → b ≡ true
      → g ≡ field 2 (fields l) → r ≡ says command g → r ≡ has_numbers class command l
  class_is g r i e t j q = rw (← i, ← e, t, ← j) q

  pub class_other : f ≡ field 1 (fields l) → b ≡ says class f → b ≡ false → false ≡ has_numbers class command l
  class_other i e t = rw (← i, ← e, t)

  pub kind_is : (r : Bool) → f ≡ field 0 (fields l) → b ≡ same f (0x43 ∷ []) → b ≡ true → r ≡ has_numbers class command l
      → r ≡ is_of class command l
  kind_is r i e t q = rw (← i, ← e, t) q

  pub kind_other : f ≡ field 0 (fields l) → b ≡ same f (0x43 ∷ []) → b ≡ false → false ≡ is_of class command l
  kind_other i e t = rw (← i, ← e, t)

-- ---- line by line: those from `at` on
pub record Looks (t : List ℕ) (class command at : ℕ) : Type 0 where
  pub inside : at ≤ length t
  pub finds : first_of class command (lines_in t) ≡ first_of class command (lines_in (drop at t))

pub looks_start : (t : List ℕ) (class command : ℕ) → Looks t class command 0
looks_start t class command = record { inside = omega arith; finds = refl }

pub looks_none : (t : List ℕ) (class command at : ℕ) → Looks t class command at → length t ≤ at → take 0 t ≡ first_of class command (lines_in t)
looks_none t class command at so_far h = rw (so_far.finds, done t at h)

module _ (t : List ℕ) (class command at : ℕ) (so_far : Looks t class command at) (h : at < length t)
    (l : List ℕ) (is : l ≡ line_at t at) (b : Bool) (said : b ≡ is_of class command l) where
  pub looks_found : (m : List ℕ) → m ≡ line_at t at → b ≡ true → m ≡ first_of class command (lines_in t)
  looks_found m e q = rw (so_far.finds, line_first t at h, ← is, ← said, q, is) e

  pub looks_more : (r : ℕ) → r ≤ length t → Follows t at r → b ≡ false → Looks t class command r
  looks_more r i f q = record { inside = i; finds = so_far.finds ∙ rw (f.says, ← is, ← said, q) }

pub ruleset laws = (class_is, class_other, kind_is, kind_other, looks_start, looks_none, looks_found, looks_more)
