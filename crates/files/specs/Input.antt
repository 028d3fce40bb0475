-- What the contracts cite.
use Rattle.std.specs.Prelude.{ℕ, ◌+◌, ◌≤◌, List, length}
use Rattle.io.specs.Counts.{IsPrefixLen}
use Rattle.files.specs.declared.input.File.{File}
use Rattle.files.specs.declared.input.File.TheVariants.{Open, Failed}
use Rattle.files.specs.declared.input.Got.{Got}
use Rattle.files.specs.declared.input.Got.TheVariants.{Bytes, Unreadable}

-- what opening answers: the name stands in the lent slice
abbrev pub Opens : {R : Type 0} → List ℕ → File R → Type 0
Opens name (Open reader n) = IsPrefixLen n name
Opens name Failed = Unit {0}

-- what a read answers behind the first n bytes of a slice: it stays inside
abbrev pub Reaches : List ℕ → ℕ → Got → Type 0
Reaches bytes n (Bytes more) = n + more ≤ length bytes
Reaches bytes n Unreadable = Unit {0}

-- what reading answers: so many bytes stand in the lent slice
abbrev pub Holds : List ℕ → Got → Type 0
Holds bytes (Bytes n) = n ≤ length bytes
Holds bytes Unreadable = Unit {0}
