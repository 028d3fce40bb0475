-- The laws that callers go by: the name of an open file stands in the slice that was lent for it. Assumes nothing.
use Rattle.std.proofs.Common.{◌≡◌, ℕ, ◌≤◌, List, length, take, sym, length-take-le}
use Rattle.io.specs.Counts.{IsPrefixLen}
use Rattle.files.specs.Input.{Opens, Holds}
use Rattle.files.specs.declared.input.Got.{Got}
use Rattle.files.specs.declared.input.Got.TheVariants.{Bytes}
use Rattle.files.specs.declared.input.File.{File}
use Rattle.files.specs.declared.input.File.TheVariants.{Open}

name_counts : (name : List ℕ) {R : Type 0} (r : File R) (reader : R) (n : ℕ) → Opens name r → r ≡ Open reader n → IsPrefixLen n name
name_counts name r reader n h e = rw e at h

pub name-inside : (name : List ℕ) {R : Type 0} (r : File R) (reader : R) (n : ℕ) → Opens name r → r ≡ Open reader n → n ≤ length name
name-inside name r reader n h e = (name_counts name r reader n h e).0

pub name-count : (name : List ℕ) {R : Type 0} (r : File R) (reader : R) (n : ℕ) → Opens name r → r ≡ Open reader n → n ≡ length (take n name)
name-count name r reader n h e = (name_counts name r reader n h e).1

-- what was read of a file
module _ (s : List ℕ) (r : Got) (n : ℕ) (holds : Holds s r) (so : r ≡ Bytes n) where
  pub held-inside : n ≤ length s
  held-inside = rw so at holds

  pub held-count : n ≡ length (take n s)
  held-count = sym (length-take-le n s held-inside)

pub ruleset held_laws = (held-inside, held-count)
