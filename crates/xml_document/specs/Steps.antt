-- What the functions on a document's tags answer.
use Rattle.std.specs.Prelude.{ℕ, ◌≤◌, ◌≡◌, Bool, true, false, List, length, drop, None}
use Rattle.xml_tags.specs.Tags.{chunks, tag_of}
use Rattle.xml_tags.specs.declared.Tag.{Tag}
use Rattle.xml_tags.specs.declared.Tag.TheVariants.{Bad, Shut, Open}
use Rattle.xml_document.specs.Document.{moved, judge}

abbrev pub is_bad : Tag → Bool
is_bad (Bad n) = true
is_bad (Shut k) = false
is_bad (Open k) = false

-- what the tag c is, if nothing is wrong with it
abbrev pub Glimpsed : List ℕ → Tag → Type 0
Glimpsed c t = is_bad (tag_of c) ≡ false → t ≡ tag_of c

-- where a tag leads, if nothing is wrong with it
abbrev pub Goes : ℕ → List ℕ → ℕ → Type 0
Goes d c n = is_bad (tag_of c) ≡ false → n ≡ moved d c (tag_of c)

-- at a place of the document x, which is in d, a tag begins, and from there on nothing is wrong
pub record Standing (x : List ℕ) (d at : ℕ) : Type 0 where
  pub inside : at ≤ length x
  pub fine : judge d at (chunks false (drop at x)) ≡ None
