-- The laws that the proofs of this crate's functions go by. Assumes nothing.
use Rattle.std.proofs.Common.{◌≡◌, ℕ, ◌≤◌, List, length}
use Rattle.files.specs.Capture.{Inside, Opens}
use Rattle.files.specs.declared.capture.Source.{Source}
use Rattle.files.specs.declared.capture.Opened.{Opened}
use Rattle.files.specs.declared.capture.Opened.TheVariants.{At}

-- an opened source stands in the block
pub opened_inside : (block : List ℕ) (r : Opened) (source : Source) → Opens block r → r ≡ At source → source.filled ≤ length block
opened_inside block r source h e = rw e at h

-- reading from a source on has come to another, within the block
pub record Reading (start : Source) (block : List ℕ) (source : Source) : Type 0 where
  pub inside : Inside block source
  pub left : source.left ≤ start.left
