-- The counts of `write_first`'s slices. Assumes nothing.
use mathlib.Core.Path.{◌≡◌, sym}
use mathlib.Core.List.{List}
use Prim.Native.Nat.{ℕ, ◌≤◌, ◌<◌}
use native.Mathlib.Omega.{arith}
use lib.ListN.{length, take}
use lib.Seq.{length-take-le}

-- the count of a slice's first bytes
pub first_count : (s : List ℕ) (n : ℕ) → n ≤ length s → n ≡ length (take n s)
first_count s n h = sym (length-take-le n s h)

pub first_of_more : (s : List ℕ) (n : ℕ) → n < length s → n ≡ length (take n s)
first_of_more s n h = first_count s n (omega arith)

-- in a set that only `write_first` names: `search` could rewrite by these equations for ever
pub ruleset counts = (first_count, first_of_more)
