-- The laws that the proofs of this crate's functions go by: a table is looked up entry by entry. Assumes nothing.
use mathlib.Core.Path.{◌≡◌}
use mathlib.Core.Bool.{false, cond}
use Prim.Native.Nat.{ℕ}
use lib.Dec.{eqb}
use borrow.Author.Tests.{eq-eqb, ne_eqb}

module _ {A : Type 0} (c n : ℕ) (r x y : A) where
  -- it is this entry
  pub at_entry : c ≡ n → r ≡ x → r ≡ cond (eqb c n) x y
  at_entry e h = rw (eq-eqb c n e) h

  -- it is another
  pub past_entry : (c ≡ n → ⊥) → r ≡ y → r ≡ cond (eqb c n) x y
  past_entry e h = rw (ne_eqb c n e) h

  pub before_entry : (m : ℕ) → c ≡ m → eqb m n ≡ false → r ≡ y → r ≡ cond (eqb c n) x y
  before_entry m e f h = rw (e, f) h

pub ruleset laws = (at_entry, past_entry, before_entry)
