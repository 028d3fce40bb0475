-- How the answers of the code that looks things up in an accepted command text are read.
use Rattle.std.specs.Prelude.{ℕ, ◌+◌, ◌<◌, Bool, true, ◌||◌, ◌≡◌, List, ◌∷◌, eqb, length, drop, Option, Some, None}
use Rattle.text.specs.Text.{field, optional}
use Rattle.text.specs.Scan.{cut}
use Rattle.text.specs.Place.{kind_of, cells, Marked}
use Rattle.text.specs.Fields.{fields_at}
use Rattle.text.specs.Records.{is_some, rest, Readable}
use Rattle.text.specs.declared.Place.{Place}
use Rattle.text.specs.declared.Line.{Line}
use Rattle.text.specs.declared.Optional.{Optional}
use Rattle.text.specs.declared.Optional.TheVariants.{Given, Missing, Wrong}
use Rattle.command_text.specs.Form.{Record, param, group, item, Detail, variant, array, bit_flag, bit_field, const, bitmask, form}
use Rattle.command_text.specs.Rules.{rules}
use Rattle.command_class.specs.Definition.{Item, numbered, letter}
use Rattle.command_class.specs.declared.Row.{Row}
use Rattle.command_class.specs.declared.Read.{Read}
use Rattle.command_class.specs.declared.Condition.{Condition}

-- the lines of t from the place p on
abbrev pub from : List ℕ → Place → List Item
from t p = numbered p.line (rest rules t p)

-- a line of a text that is accepted from there on
pub record Good (t : List ℕ) (l : Line) : Type 0 where
  pub marked : Marked t l.marks l.fields
  pub kind_is : l.kind ≡ kind_of (cells t l)
  pub formed : is_some (form (cells t l)) ≡ true

-- is a letter one of three
abbrev pub among : ℕ → ℕ → ℕ → ℕ → Bool
among a b c k = eqb k a || (eqb k b || eqb k c)

-- how a missing offset, mask or length is kept: the others are up to 255
abbrev pub no_number : ℕ
no_number = 256

-- a number that may be missing
abbrev pub or_missing : Option ℕ → ℕ
or_missing None = no_number
or_missing (Some n) = n

-- the same, of what a field says
abbrev pub optional_or : Optional → ℕ
optional_or (Given n) = n
optional_or Missing = no_number
optional_or Wrong = no_number

-- the number that a field says, if it is not missing
unfoldable pub number_or : List ℕ → ℕ
number_or l = optional_or (optional 255 l)

-- the numbers of a row are what an item says
abbrev pub SaysItem : Detail → Row → Type 0
SaysItem (variant s) r = (r.offset ≡ s.offset) × (r.mask ≡ s.mask) × (r.shift ≡ s.shift) × (r.ascii ≡ s.ascii)
SaysItem (array length ascii) r = (r.value ≡ length) × (r.ascii ≡ ascii)
SaysItem (bit_flag mask name) r = r.mask ≡ mask
SaysItem (bit_field b) r = (r.mask ≡ b.mask) × (r.shift ≡ b.shift)
SaysItem (const value name) r = r.value ≡ value
SaysItem (bitmask length) r = r.value ≡ or_missing length

-- the numbers of a row are what the line says
abbrev pub Says : Record → Row → Type 0
Says (param q) r = (r.level ≡ q.level) × (r.typed ≡ q.type) × (r.offset ≡ or_missing q.offset) × (r.mask ≡ or_missing q.mask)
Says (group g) r = (r.offset ≡ g.offset) × (r.mask ≡ g.mask) × (r.shift ≡ g.shift)
Says (item d) r = SaysItem d r

-- a row tells what a line says
pub record Tells (t : List ℕ) (l : Line) (r : Row) : Type 0 where
  pub said : Record
  pub form_is : form (cells t l) ≡ Some said
  pub kind : r.kind ≡ letter said
  pub says : Says said r

-- a row tells what the line at the place p says
pub record Numbers (t : List ℕ) (p : Place) (r : Row) : Type 0 where
  pub said : Record
  pub others : List Item
  pub lines : from t p ≡ record { line = p.line; says = said } ∷ others
  pub kind : r.kind ≡ letter said
  pub says : Says said r

-- the line at the place p, and the place after it
pub record IsRead (t : List ℕ) (p : Place) (r : Read) : Type 0 where
  pub said : Record
  pub lines : from t p ≡ record { line = p.line; says = said } ∷ from t r.next
  pub kind : r.row.kind ≡ letter said
  pub says : Says said r.row
  pub next : Readable rules t r.next
  pub count : r.next.line ≡ p.line + 1
  pub on : p.at < r.next.at

-- the last two fields of a Q line, which begin at a: what they say, and where the line ends
pub record IsCondition (t : List ℕ) (a : ℕ) (r : Condition) : Type 0 where
  pub offset : r.offset ≡ number_or (field 0 (fields_at t a))
  pub mask : r.mask ≡ number_or (field 1 (fields_at t a))
  pub end : r.end ≡ a + cut 0x0a (drop a t)
  pub inside : r.end < length t

-- a line that is read as one of the kind k begins at the place p
pub record Begins (t : List ℕ) (p : Place) (k : ℕ) : Type 0 where
  pub said : Record
  pub others : List Item
  pub lines : from t p ≡ record { line = p.line; says = said } ∷ others
  pub kind : k ≡ letter said

-- the place q follows the line that begins at the place p
pub record Follows (t : List ℕ) (p q : Place) : Type 0 where
  pub said : Record
  pub lines : from t p ≡ record { line = p.line; says = said } ∷ from t q
  pub readable : Readable rules t q
  pub on : p.at < q.at
