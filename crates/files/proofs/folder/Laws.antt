-- The laws that the proofs of this crate's callers go by. Assumes nothing.
use Rattle.std.proofs.Common.{◌≡◌, ℕ, ◌≤◌, List, length, take}
use Rattle.io.specs.Counts.{IsPrefixLen}
use Rattle.files.specs.Folder.{Loads}
use Rattle.std.specs.Prelude.{Option, Some}

-- what was read stands in the slice
loaded_counts : (s : List ℕ) (r : Option ℕ) (n : ℕ) → Loads s r → r ≡ Some n → IsPrefixLen n s
loaded_counts s r n h e = rw e at h

pub loaded_inside : (s : List ℕ) (r : Option ℕ) (n : ℕ) → Loads s r → r ≡ Some n → n ≤ length s
loaded_inside s r n h e = (loaded_counts s r n h e).0

pub loaded_count : (s : List ℕ) (r : Option ℕ) (n : ℕ) → Loads s r → r ≡ Some n → n ≡ length (take n s)
loaded_count s r n h e = (loaded_counts s r n h e).1
