-- LS8 (docs/RULES.md): our own answer as a listing.
use Rattle.std.specs.Prelude.{◌≡◌, List, ℕ, ◌+◌, length, Some, Result, Ok, Err}
use Rattle.refusal.specs.declared.Refusal.{Refusal}
use Rattle.text.specs.Text.{lines}
use Rattle.buffer.specs.Buffer.{Writes as WritesText}
use Rattle.frame_definition.specs.Definition.{Base, definition, first_base}
use Rattle.header_rules.specs.Data.{Field, Candidate}
use Rattle.header_rules.specs.Demand.{First}
use Rattle.header_rules.specs.Table.{most_numbers, table_of}
use Rattle.header_rules.specs.Trees.{trees}
use Rattle.header_rules.specs.Told.{candidates_of}
use Rattle.header.specs.Decode.{key_of, decoded}
use Rattle.header.specs.declared.DecodedHeader.{DecodedHeader}
use Rattle.listing_text.specs.Listing.{listing_of, names, form_of}

-- LS8, VT8: the listing of the rows and the number, which has the form of a listing, is answered and left in the buffer b
pub record GivesListing (rows : List (List ℕ)) (number : ℕ) (b : List ℕ) (r : Result ℕ Refusal) (b' : List ℕ) : Type 0 where
  pub gives : WritesText (listing_of rows number) b r b'
  pub form_is : form_of 1 (lines (listing_of rows number)) ≡ names number (1 + length rows)

-- LS8: what `write_listing` answers and leaves: as the header's call refuses, or the listing of the first candidate that holds
pub record Writes (t d : List ℕ) (region speed : ℕ) (b : List ℕ) (r : Result ℕ Refusal) (b' : List ℕ) : Type 0 where
  pub refused : (x : Refusal) → decoded t d region speed most_numbers ≡ Err x → (r ≡ Err x) × (b' ≡ b)
  pub written : (h : DecodedHeader) → decoded t d region speed most_numbers ≡ Ok h
      → (a : Base) → first_base (key_of t region speed) (definition t).bases ≡ Some a
      → (c : Candidate 7) (fs : List (Field 7)) → First 7 d (trees a.params) (candidates_of (key_of t region speed) (definition t)) c fs
      → GivesListing (table_of 7 d (definition t).sets fs) c.number b r b'
