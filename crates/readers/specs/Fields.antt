-- A field of a text, as a part of it.
use Rattle.std.specs.Prelude.{ℕ, suc, ◌+◌, ◌≤◌, ◌≡◌, List, [], ltb, length, get_or, take, drop}
use Rattle.text.specs.Text.{split}
use Rattle.text.specs.declared.Part.{Part}

-- the part p of s is field k of those that b parts, and ends before the end of s exactly where another follows
pub record IsField (b k : ℕ) (s : List ℕ) (p : Part) : Type 0 where
  pub inside : p.start + p.len ≤ length s
  pub more : ltb (p.start + p.len) (length s) ≡ ltb (suc k) (length (split b s))
  pub says : take p.len (drop p.start s) ≡ get_or (split b s) k []
