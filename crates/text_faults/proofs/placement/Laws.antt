-- The laws that the proofs of this crate's functions go by. Assumes nothing.
use mathlib.Core.Path.{◌≡◌}
use mathlib.Core.Bool.{Bool, true, false, not}
use mathlib.Core.List.{List}
use Prim.Native.Nat.{ℕ}
use borrow.Author.Tests.{eq-eqb, ne_eqb}
use Rattle.text.specs.Text.{field, up_to, missing, optional_up_to}
use Rattle.text.specs.Place.{kind_of}
use Rattle.text_faults.specs.Placement.{too_deep, shift_field, frame_misplaced, command_misplaced}
use Rattle.text_faults.specs.declared.placement.Misplaced.TheVariants.{Owner, Parent, SizePath, Shift}

module _ (fs : List (List ℕ)) (l : List ℕ) (first : l ≡ field 1 fs) (b : Bool) (is : b ≡ up_to 7 l) where
  pub deep : not b ≡ too_deep fs
  deep = rw (← first, ← is)

module _ (fs : List (List ℕ)) (c : ℕ) (c-is : c ≡ kind_of fs) where
  pub misplaced-other : (c ≡ 0x50 → ⊥) → Owner ≡ frame_misplaced fs
  misplaced-other o = rw (← c-is, ne_eqb c 0x50 o)

  module _ (is-P : c ≡ 0x50) (l : List ℕ) (first : l ≡ field 1 fs) (b : Bool) (is : b ≡ up_to 0 l) where
    pub misplaced-outer : b ≡ true → Owner ≡ frame_misplaced fs
    misplaced-outer e = rw (← c-is, eq-eqb c 0x50 is-P, ← first, ← is, e)

    module _ (inner : b ≡ false) (m : List ℕ) (size : m ≡ field 8 fs) (d : Bool) (none : d ≡ missing m) where
      pub misplaced-parent : d ≡ true → Parent ≡ frame_misplaced fs
      misplaced-parent e = rw (← c-is, eq-eqb c 0x50 is-P, ← first, ← is, inner, ← size, ← none, e)

      pub misplaced-size : d ≡ false → SizePath ≡ frame_misplaced fs
      misplaced-size e = rw (← c-is, eq-eqb c 0x50 is-P, ← first, ← is, inner, ← size, ← none, e)

module _ (fs : List (List ℕ)) (c : ℕ) (c-is : c ≡ kind_of fs) (k : ℕ) (k_is : k ≡ shift_field c) where
  pub misplaced_shiftless : k ≡ 0 → Owner ≡ command_misplaced fs
  misplaced_shiftless z = rw (← c-is, ← k_is, eq-eqb k 0 z)

  module _ (some : k ≡ 0 → ⊥) (l : List ℕ) (at-k : l ≡ field k fs) (b : Bool) (is : b ≡ optional_up_to 7 l) where
    pub misplaced-owner : b ≡ true → Owner ≡ command_misplaced fs
    misplaced-owner e = rw (← c-is, ← k_is, ne_eqb k 0 some, ← at-k, ← is, e)

    pub misplaced-shift : b ≡ false → Shift ≡ command_misplaced fs
    misplaced-shift e = rw (← c-is, ← k_is, ne_eqb k 0 some, ← at-k, ← is, e)

pub ruleset laws = (deep, misplaced-other, misplaced-outer, misplaced-parent, misplaced-size, misplaced_shiftless, misplaced-owner, misplaced-shift)
