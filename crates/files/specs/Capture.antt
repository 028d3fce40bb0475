-- What the contracts cite: a block holds what its source says, and reading ends.
use Rattle.std.specs.Prelude.{ℕ, ◌<◌, ◌≤◌, List, length}
use Rattle.files.specs.declared.capture.Source.{Source}
use Rattle.files.specs.declared.capture.Opened.{Opened}
use Rattle.files.specs.declared.capture.Opened.TheVariants.{At, Unreadable as Unopened}
use Rattle.files.specs.declared.capture.Read.{Read}
use Rattle.files.specs.declared.capture.Read.TheVariants.{Byte, End, Unreadable}

-- the bytes that a source has filled stand in the block
abbrev pub Inside : List ℕ → Source → Type 0
Inside block source = source.filled ≤ length block

-- what opening answers
abbrev pub Opens : List ℕ → Opened → Type 0
Opens block (At source) = Inside block source
Opens block Unopened = Unit {0}

-- a source after another: it stands in the block, and fewer bytes may still come
pub record Falls (block : List ℕ) (before after : Source) : Type 0 where
  pub inside : Inside block after
  pub less : after.left < before.left

-- what reading a byte answers
abbrev pub Reads : List ℕ → Source → Read → Type 0
Reads block source (Byte b after) = Falls block source after
Reads block source End = Unit {0}
Reads block source Unreadable = Unit {0}
